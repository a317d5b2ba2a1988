-- Any two outcomes that a contract of this crate allows for the same input are one. Assumes nothing.
use Prim.Native.Nat.{ℕ}
use mathlib.Core.Path.{◌≡◌}
use mathlib.Core.List.{List}
use Rattle.std.specs.Prelude.{Result, Ok, Err}
use Rattle.answers.specs.declared.Refusal.{Refusal}
use Rattle.buffer.specs.Written.{outcome}
use Rattle.buffer.proofs.OneOutcome.{one_outcome}
use Rattle.mark.specs.Word.{letters_outcome}

-- of `write_letters`: the answer and the lent bytes are fixed (`put_letters`: as every put's, `one_put`)
pub one_letters : (word : ℕ) (old : List ℕ) (r s : Result ℕ Refusal) (x y : List ℕ)
    → outcome r x ≡ letters_outcome word old → outcome s y ≡ letters_outcome word old → (r ≡ s) × (x ≡ y)
one_letters word old r s x y p q = one_outcome p q
