-- The one outcome of every call that writes into a lent buffer (01, "Numbers given back"). Assumes nothing.
use Rattle.std.specs.Prelude.{ℕ, List, ◌++◌, cond, leb, length, drop, Result}
use Rattle.answers.specs.declared.Refusal.{Refusal}
use Rattle.answers.specs.declared.Told.{Told}
use Rattle.answers.specs.Tells.{success, refusal, told_of}

-- what a call comes to: what it tells, and the lent bytes that it leaves
pub record Outcome : Type 0 where
  pub tells : Told
  pub leaves : List ℕ

-- what an answer and a buffer come to
abbrev pub outcome : Result ℕ Refusal → List ℕ → Outcome
outcome answer buffer = record { tells = told_of answer; leaves = buffer }

-- a refusal gives its number and zero bytes written, and no lent byte changes
abbrev pub refused : Refusal → List ℕ → Outcome
refused why old = record { tells = refusal why; leaves = old }

-- a success writes from the front; bytes behind it stay
abbrev pub wrote : List ℕ → List ℕ → Outcome
wrote w old = record { tells = success (length w); leaves = w ++ drop (length w) old }

-- w is written whole; where the lent buffer is shorter than w, the call is refused with 5
unfoldable pub written : List ℕ → List ℕ → Outcome
written w old = cond (leb (length w) (length old)) (wrote w old) (refused Refusal.ShortBuffer old)
