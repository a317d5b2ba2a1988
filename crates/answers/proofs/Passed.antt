-- What `?` hands on. Assumes nothing.
use mathlib.Core.Path.{◌≡◌, ap}
use Rattle.std.specs.Prelude.{Result, Ok, Err, IsErrAnd}
use Rattle.answers.specs.declared.Refusal.{Refusal}

-- a call that hands a refusal on is refused with it
pub passed_on : {A : Type 0} {r : Result A Refusal} {why : Refusal} → IsErrAnd r (λ e. e ≡ why) → r ≡ Err why
passed_on {r = Ok a} h = absurd h
passed_on {r = Err e} h = ap Err h
