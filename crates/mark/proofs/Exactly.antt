-- When the letters of a word are refused, and with which number. Assumes nothing.
use Prim.Native.Nat.{ℕ, ◌≤◌, ◌<◌}
use mathlib.Core.Path.{◌≡◌, refl}
use mathlib.Core.List.{List, [], ◌∷◌}
use Rattle.answers.specs.declared.Refusal.{Refusal}
use Rattle.answers.proofs.Exactly.{one_more, refusal_exactly}
use Rattle.buffer.specs.Written.{written, refused}
use Rattle.buffer.specs.Demand1.{shorter_than}
use Rattle.buffer.proofs.Exactly.{written_row, refuses_by}
use Rattle.mark.specs.Word.{letters_of, letters_outcome}
use Rattle.mark.specs.Demand1.{top_bits_set, LettersRefuse, TwelveExactly}
use Rattle.mark.proofs.Top.{top_clear, top_set, top_exactly}

-- `write_letters`, of fourteen letters: 12, 5
pub letters_exactly : (word : ℕ) (old : List ℕ) → LettersRefuse word old
unfolding letters_of
letters_exactly word old = refuses_by refl (one_more (top_bits_set word) (written_row (letters_of word) old))

-- 12 exactly when a bit from 28 up is set
pub twelve_exactly : TwelveExactly
twelve_exactly word old =
    let told = (letters_outcome word old).tells in
    let by_Row = refusal_exactly (top_bits_set word) (shorter_than 14 old ∷ []) tt [] tt told (letters_exactly word old).exactly in
    let by_bits = top_exactly word in
    ((λ e. by_bits.0 (by_Row.0 e).1), (λ b. by_Row.1 (tt, by_bits.1 b)))

-- by the number itself: 2^28 and more is refused, less is written
pub letters_refused : (word : ℕ) (old : List ℕ) → 268435456 ≤ word → letters_outcome word old ≡ refused Refusal.TopBits old
letters_refused word old h = rw (top_set word h)

pub letters_given : (word : ℕ) (old : List ℕ) → word < 268435456 → letters_outcome word old ≡ written (letters_of word) old
letters_given word old h = rw (top_clear word h)
