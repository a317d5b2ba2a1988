-- Any two outcomes that a contract of this crate allows for the same input are one. Assumes nothing.
use Prim.Native.Nat.{ℕ}
use mathlib.Core.Path.{◌≡◌, sym, ap, ◌∙◌}
use mathlib.Core.List.{List}
use Rattle.answers.specs.declared.Told.{Told}
use Rattle.buffer.specs.Written.{Outcome}
use Rattle.res_table_config.specs.Face.{answer_tells, answer_outcome}
use Rattle.res_table_config.proofs.Packing.{packed_is}

-- of `res_table_config_take`, `res_table_config_replaced`, `res_table_config_marks_word`, `res_table_config_order`, `res_table_config_find`
-- and `res_table_type_take`, whatever t is defined to be: the answer is fixed
pub one_answer : {t : Told} (r s : ℕ) → answer_tells r ≡ t → answer_tells s ≡ t → r ≡ s
one_answer {t} r s p q = packed_is r t p ∙ sym (packed_is s t q)

-- of `res_table_config_text`, `res_table_config_aged_text`, `res_table_config_marks`, `res_table_config_marks_letters`,
-- `res_table_config_index`, `res_table_config_named`, `res_table_type_head`, `res_table_type_aged_text` and `res_table_type_marks`, whatever their outcome o is
-- defined to be: the answer and the lent bytes are fixed
pub one_outcome : {o : Outcome} (r s : ℕ) (x y : List ℕ) → answer_outcome r x ≡ o → answer_outcome s y ≡ o → (r ≡ s) × (x ≡ y)
one_outcome r s x y p q =
    (one_answer r s (ap (λ (z : Outcome). z.tells) p) (ap (λ (z : Outcome). z.tells) q), ap (λ (z : Outcome). z.leaves) (p ∙ sym q))
