-- Every call of this crate has one outcome, by `one_answer` of answers where its answer is a definition's. Assumes nothing.
use Prim.Native.Nat.{ℕ}
use mathlib.Core.Path.{◌≡◌, sym, ap, ◌∙◌}
use lib.ListN.{get_or}
use Rattle.record.specs.declared.ages.Age.{Age}
use Rattle.record.specs.Ages.{ages}

-- `Age::nth` says so of the number in its answer, which is all that the answer holds.
pub one_age : (row : ℕ) (r s : Age) → r.0 ≡ get_or ages row 0 → s.0 ≡ get_or ages row 0 → r ≡ s
one_age row r s e f = ap (λ (n : ℕ). record { 0 = n }) (e ∙ sym f)
