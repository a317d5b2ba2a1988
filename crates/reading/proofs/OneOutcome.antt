-- Any two outcomes that a contract of this crate allows for the same input are one. Assumes nothing.
use Prim.Native.Nat.{ℕ, min}
use mathlib.Core.Path.{◌≡◌, refl, sym, ap, ap₂, ◌∙◌}
use Rattle.answers.specs.declared.Told.{Told}
use Rattle.std.specs.Prelude.{Result, Ok, Err}
use Rattle.answers.specs.declared.Refusal.{Refusal}
use Rattle.answers.specs.Tells.{told_of}
use Rattle.answers.proofs.OneOutcome.{one_answer}
use Rattle.answers.proofs.OneToOne.{answer_one}
use Rattle.record.specs.declared.ResTableConfig.{ResTableConfig}
use Rattle.reading.specs.declared.Parsed.{Parsed}
use Rattle.reading.specs.Reading.{ParseOutcome, parsed_outcome}

-- what an answer says of the bytes that are taken
abbrev taken_by : Result Parsed Refusal → Result ℕ Refusal
taken_by (Ok parsed) = Ok parsed.taken
taken_by (Err why) = Err why

abbrev parsed_with : ResTableConfig → Result ℕ Refusal → Result Parsed Refusal
parsed_with r (Ok n) = Ok (record { taken = n; «record» = r })
parsed_with r (Err why) = Err why

parsed_back : (a : Result Parsed Refusal) → parsed_with (parsed_outcome a).gives (taken_by a) ≡ a
parsed_back (Ok parsed) = refl
parsed_back (Err why) = refl

taken_tells : (a : Result Parsed Refusal) → (parsed_outcome a).tells ≡ told_of (taken_by a)
taken_tells (Ok parsed) = refl
taken_tells (Err why) = refl

-- of `parse` and `parse_aged`, whatever their outcome o is defined to be: the answer is fixed, and with it the record
pub one_parse : {o : ParseOutcome} (r s : Result Parsed Refusal) → parsed_outcome r ≡ o → parsed_outcome s ≡ o → r ≡ s
one_parse r s p q =
    let e = p ∙ sym q in
    let same = answer_one (taken_by r) (taken_by s) (sym (taken_tells r) ∙ ap (λ (z : ParseOutcome). z.tells) e ∙ taken_tells s) in
    sym (parsed_back r) ∙ ap₂ parsed_with (ap (λ (z : ParseOutcome). z.gives) e) same ∙ parsed_back s

-- of `take`: the answer is fixed
pub one_take : {t : Told} (r s : Result ℕ Refusal) → told_of r ≡ t → told_of s ≡ t → r ≡ s
one_take r s p q = answer_one r s (p ∙ sym q)

-- of `lesser`: the answer is its definition's value at the input
pub one_lesser : (a b r s : ℕ) → r ≡ min a b → s ≡ min a b → r ≡ s
one_lesser a b r s p q = one_answer (min a) b r s p q
