-- Any two outcomes that a contract of this crate allows for the same input are one. Assumes nothing.
use Prim.Native.Nat.{ℕ}
use mathlib.Core.Path.{◌≡◌}
use mathlib.Core.List.{List}
use lib.ListN.{drop}
use Rattle.answers.specs.declared.Counted.{Counted}
use Rattle.std.specs.Prelude.{Result, Ok, Err}
use Rattle.answers.specs.declared.Refusal.{Refusal}
use Rattle.buffer.specs.Counted.{counted_outcome}
use Rattle.buffer.specs.Written.{outcome}
use Rattle.buffer.proofs.OneOutcome.{one_outcome, one_counted}
use Rattle.marking.specs.Marks.{marks_outcome}
use Rattle.text.specs.Counted.{counted_aged}

-- of `text_at` and `marks_at`: the answer and the lent bytes are fixed
pub one_text : (a : ℕ) (bytes : List ℕ) (p : ℕ) (old : List ℕ) (r s : Result Counted Refusal) (x y : List ℕ)
    → counted_outcome r x ≡ counted_aged a (drop p bytes) old → counted_outcome s y ≡ counted_aged a (drop p bytes) old → (r ≡ s) × (x ≡ y)
one_text a bytes p old r s x y e f = one_counted e f

pub one_marks : (a : ℕ) (bytes : List ℕ) (p : ℕ) (old : List ℕ) (r s : Result ℕ Refusal) (x y : List ℕ)
    → outcome r x ≡ marks_outcome a (drop p bytes) old → outcome s y ≡ marks_outcome a (drop p bytes) old → (r ≡ s) × (x ≡ y)
one_marks a bytes p old r s x y e f = one_outcome e f
