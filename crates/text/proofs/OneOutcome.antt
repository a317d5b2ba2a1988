-- Any two outcomes of a text call for the same input are one. Assumes nothing.
use Prim.Native.Nat.{ℕ}
use mathlib.Core.Path.{◌≡◌, sym, ◌∙◌}
use mathlib.Core.List.{List}
use Rattle.answers.specs.declared.Counted.{Counted}
use Rattle.std.specs.Prelude.{Result}
use Rattle.answers.specs.declared.Refusal.{Refusal}
use Rattle.answers.specs.Tells.{told_of}
use Rattle.answers.proofs.OneToOne.{answer_one}
use Rattle.buffer.specs.Counted.{counted_outcome}
use Rattle.buffer.proofs.OneOutcome.{one_counted}
use Rattle.text.specs.Counted.{counted_plain, counted_aged, replacements_of}

pub one_plain : (bytes old : List ℕ) {r s : Result Counted Refusal} {x y : List ℕ} → counted_outcome r x ≡ counted_plain bytes old → counted_outcome s y ≡ counted_plain bytes old → (r ≡ s) × (x ≡ y)
one_plain bytes old p q = one_counted p q

pub one_aged : (a : ℕ) (bytes old : List ℕ) {r s : Result Counted Refusal} {x y : List ℕ} → counted_outcome r x ≡ counted_aged a bytes old → counted_outcome s y ≡ counted_aged a bytes old → (r ≡ s) × (x ≡ y)
one_aged a bytes old p q = one_counted p q

-- of `replacements`: the answer is fixed
pub one_replaced : (a : ℕ) (bytes : List ℕ) (r s : Result ℕ Refusal) → told_of r ≡ replacements_of a bytes → told_of s ≡ replacements_of a bytes → r ≡ s
one_replaced a bytes r s p q = answer_one r s (p ∙ sym q)
