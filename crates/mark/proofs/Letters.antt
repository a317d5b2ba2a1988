-- The fourteen letters of a word, one by one, and the word that they stand for. Assumes nothing.
use Prim.Native.Nat.{ℕ, ◌+◌, ◌/◌, ◌%◌, ◌^◌, ◌<◌}
use mathlib.Core.Path.{◌≡◌, refl, sym, ap, ◌∙◌}
use mathlib.Core.List.{List, [], ◌∷◌, map}
use native.Mathlib.Nat.{pow-suc, div-div-eq-div-mul}
use native.Mathlib.Numerals.{add-one}
use native.Mathlib.Omega.{arith}
use lib.Dec.{eqb}
use lib.ListN.{length, get_or, take}
use borrow.Author.Tests.{eqb-true}
use Rattle.laws.proofs.Below.{in_row}
use Rattle.laws.proofs.Lists.{mapped_at}
use Rattle.buffer.specs.Put.{Put}
use Rattle.buffer.proofs.Putting.{put_turn}
use Rattle.mark.specs.declared.Mark.{Mark}
use Rattle.mark.specs.Word.{letter_of, mark_of_bits, in_one_word, marks_in, letters_of}
use Rattle.mark.specs.Claims.{bits_at}
use Rattle.mark.proofs.Words.{mark_at, marks_back}

-- fourteen letters
pub letters_length : (word : ℕ) → length (letters_of word) ≡ 14
unfolding letters_of
letters_length word = refl

-- letter i is that of the bits there
pub letter_at : (word i : ℕ) → i < 14 → get_or (letters_of word) i 0 ≡ letter_of (mark_of_bits (bits_at word i))
unfolding letters_of
letter_at word i h = mapped_at letter_of (marks_in 14 word) i Mark.Absent 0 h ∙ ap letter_of (mark_at 14 word i h)

-- fourteen marks in one word have their own letters
pub letters_are : (ms : List Mark) → length ms ≡ 14 → letters_of (in_one_word ms) ≡ map letter_of ms
unfolding letters_of
letters_are ms e = ap (λ (n : ℕ). map letter_of (marks_in n (in_one_word ms))) (sym e) ∙ ap (map letter_of) (marks_back ms)

-- the letters by two bits, as a table
abbrev table : List ℕ
table = 65 ∷ 66 ∷ 70 ∷ 85 ∷ []

table_at : (b : ℕ) → b < 4 → get_or table b 0 ≡ letter_of (mark_of_bits b)
table_at b h = eqb-true (get_or table b 0) (letter_of (mark_of_bits b)) (in_row 4 (λ n. eqb (get_or table n 0) (letter_of (mark_of_bits n))) tt b h)

-- what is left of a word behind i marks begins with mark i
module _ (word i rest : ℕ) (e : rest ≡ word / 4 ^ i) where
  pub letter_here : get_or table (rest % 4) 0 ≡ letter_of (mark_of_bits (bits_at word i))
  letter_here = table_at (rest % 4) (omega arith) ∙ ap (λ (w : ℕ). letter_of (mark_of_bits (w % 4))) e

  pub next_rest : rest / 4 ≡ word / 4 ^ (i + 1)
  next_rest = ap (λ (w : ℕ). w / 4) e ∙ div-div-eq-div-mul word (4 ^ i) 4 ∙ ap (λ (p : ℕ). word / p) (sym (pow-suc 4 i)) ∙ ap (λ (k : ℕ). word / 4 ^ k) (sym (add-one i))

-- one more letter is put
pub letter_next : (word : ℕ) {old m n : List ℕ} {at o r : ℕ} (i v : ℕ) → i < 14 → v ≡ letter_of (mark_of_bits (bits_at word i))
    → Put old at (take i (letters_of word)) m o → Put m o (v ∷ []) n r → Put old at (take (i + 1) (letters_of word)) n r
letter_next word i v h e p q =
    let l : i < length (letters_of word) = omega (arith, letters_length word) in
    rw add-one (put_turn (letters_of word) i l p (rw (letter_at word i h, ← e) q))
