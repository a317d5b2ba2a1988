-- Any two outcomes that the contract of `index` allows for the same input are one. Assumes nothing.
use Prim.Native.Nat.{ℕ}
use mathlib.Core.Path.{◌≡◌, refl, sym, ap, ◌∙◌}
use mathlib.Core.List.{List}
use Rattle.std.specs.Prelude.{Result}
use Rattle.answers.specs.declared.Refusal.{Refusal}
use Rattle.answers.specs.declared.Told.{Told}
use Rattle.answers.specs.Tells.{told_of}
use Rattle.answers.proofs.OneToOne.{answer_one}
use Rattle.runs.specs.declared.RunEnd.{RunEnd}
use Rattle.index.specs.declared.Indexed.{Indexed}
use Rattle.index.specs.Index.{IndexOutcome, indexed_outcome, index_outcome}

-- of what is told of the entries: the answer is fixed
pub one_entries : {t : Told} (r s : Result ℕ Refusal) → told_of r ≡ t → told_of s ≡ t → r ≡ s
one_entries r s p q = answer_one r s (p ∙ sym q)

same : {a b : Result ℕ Refusal} {x y : RunEnd} → a ≡ b → x ≡ y → ◌≡◌ {A = Indexed} (record { answer = a; end = x }) (record { answer = b; end = y })
same e f = cc

-- of `index`: the answer, the run's end and the lent bytes are fixed
pub one_indexed : (bytes old : List ℕ) (r s : Indexed) (x y : List ℕ) → indexed_outcome r x ≡ index_outcome bytes old → indexed_outcome s y ≡ index_outcome bytes old → (r ≡ s) × (x ≡ y)
one_indexed bytes old r s x y p q =
    let e = p ∙ sym q in (
      same (one_entries r.answer s.answer (ap (λ (o : IndexOutcome). o.does.tells) e) refl) (ap (λ (o : IndexOutcome). o.run) e),
      ap (λ (o : IndexOutcome). o.does.leaves) e,
    )
