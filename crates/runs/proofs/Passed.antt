-- What `?` makes of a refusal where a run stops. Assumes nothing.
use Prim.Native.Nat.{ℕ}
use mathlib.Core.Path.{◌≡◌, ap}
use Rattle.std.specs.Prelude.{Result, Ok, Err, IsErrAnd}
use Rattle.answers.specs.declared.Refusal.{Refusal}
use Rattle.runs.specs.declared.Stop.{Stop}

-- what is refused stops the run, for that refusal
pub refused_on : {A : Type 0} {r : Result A Stop} {why : Refusal} → IsErrAnd r (λ stop. stop ≡ Stop.Refused why) → r ≡ Err (Stop.Refused why)
refused_on {r = Ok a} h = absurd h
refused_on {r = Err e} h = ap Err h
