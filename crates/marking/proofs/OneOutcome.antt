-- Any two outcomes that a contract of this crate allows for the same input are one. Assumes nothing.
use Prim.Native.Nat.{ℕ, zero, suc}
use mathlib.Core.Path.{◌≡◌, sym, ◌∙◌}
use mathlib.Core.Bool.{Bool, true, false}
use mathlib.Core.List.{List}
use Rattle.answers.specs.declared.Told.{Told}
use Rattle.std.specs.Prelude.{Result, Ok, Err}
use Rattle.answers.specs.declared.Refusal.{Refusal}
use Rattle.answers.specs.Tells.{told_of}
use Rattle.answers.proofs.OneOutcome.{one_answer}
use Rattle.answers.proofs.OneToOne.{answer_one, back, ok_back, refused_back, tells_one}
use Rattle.buffer.specs.Written.{outcome}
use Rattle.buffer.proofs.OneOutcome.{one_outcome}
use Rattle.marking.specs.Marks.{held_tells, late_bytes, marks_outcome}

-- of `marks`: the answer and the lent bytes are fixed
pub one_marks : (a : ℕ) (bytes old : List ℕ) (r s : Result ℕ Refusal) (x y : List ℕ)
    → outcome r x ≡ marks_outcome a bytes old → outcome s y ≡ marks_outcome a bytes old → (r ≡ s) × (x ≡ y)
one_marks a bytes old r s x y p q = one_outcome p q

-- of `marks_word`: the answer is fixed
pub one_marked : {t : Told} (r s : Result ℕ Refusal) → told_of r ≡ t → told_of s ≡ t → r ≡ s
one_marked r s p q = answer_one r s (p ∙ sym q)

-- the answer of an amount
abbrev yes_of : ℕ → Result Bool Refusal
yes_of zero = Ok false
yes_of (suc n) = Ok true

-- each answer comes back from what it tells
held_back : (r : Result Bool Refusal) → back yes_of Err (held_tells r) ≡ r
held_back (Ok false) = ok_back yes_of Err 0
held_back (Ok true) = ok_back yes_of Err 1
held_back (Err why) = refused_back yes_of Err why

-- of `held_back`: the answer is fixed
pub one_held : {t : Told} (r s : Result Bool Refusal) → held_tells r ≡ t → held_tells s ≡ t → r ≡ s
one_held r s p q = tells_one held_tells yes_of Err held_back r s (p ∙ sym q)

-- of `late_bytes`: the answer is its definition's value at the input
pub one_late : (s : List ℕ) (n a : ℕ) (r t : Bool) → r ≡ late_bytes s n a → t ≡ late_bytes s n a → r ≡ t
one_late s n a r t p q = one_answer (late_bytes s n) a r t p q
