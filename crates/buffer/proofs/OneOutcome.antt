-- Any two outcomes that a contract allows for the same input are one. Assumes nothing.
use Prim.Native.Nat.{ℕ}
use mathlib.Core.Path.{◌≡◌, sym, ap, ◌∙◌}
use mathlib.Core.List.{List}
use Rattle.answers.specs.declared.Counted.{Counted}
use Rattle.std.specs.Prelude.{Result}
use Rattle.answers.specs.declared.Refusal.{Refusal}
use Rattle.answers.proofs.OneToOne.{answer_one, counted_one}
use Rattle.buffer.specs.Put.{Put}
use Rattle.buffer.specs.Written.{Outcome, outcome}
use Rattle.buffer.specs.Counted.{CountedOutcome, counted_outcome}

-- of every call that writes, whatever its outcome o is defined to be: the answer and the lent bytes are fixed
pub one_outcome : {o : Outcome} {r s : Result ℕ Refusal} {x y : List ℕ} → outcome r x ≡ o → outcome s y ≡ o → (r ≡ s) × (x ≡ y)
one_outcome {o} {r} {s} {x} {y} p q =
    let e = p ∙ sym q in (answer_one r s (ap (λ (z : Outcome). z.tells) e), ap (λ (z : Outcome). z.leaves) e)

-- of every call that writes a text: so is the number of replacements
pub one_counted : {o : CountedOutcome} {r s : Result Counted Refusal} {x y : List ℕ} → counted_outcome r x ≡ o → counted_outcome s y ≡ o → (r ≡ s) × (x ≡ y)
one_counted {o} {r} {s} {x} {y} p q =
    let e = p ∙ sym q in
    (counted_one r s (ap (λ (z : CountedOutcome). z.does.tells) e) (ap (λ (z : CountedOutcome). z.replacements) e), ap (λ (z : CountedOutcome). z.does.leaves) e)

-- of the machinery: where it stopped and what it left are fixed
pub one_put : {old : List ℕ} {at : ℕ} {w : List ℕ} {x y : List ℕ} {r s : ℕ} → Put old at w x r → Put old at w y s → (r ≡ s) × (x ≡ y)
one_put p q = (p.ends ∙ sym q.ends, p.holds ∙ sym q.holds)
