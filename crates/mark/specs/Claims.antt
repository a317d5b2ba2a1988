-- 02, K8: what is claimed of marks in one word and of their letters. Assumes nothing.
use Rattle.std.specs.Prelude.{ℕ, ◌/◌, ◌%◌, ◌^◌, ◌≤◌, ◌<◌, ◌≡◌, List, map, length, get_or}
use Rattle.buffer.specs.Written.{wrote}
use Rattle.mark.specs.declared.Mark.{Mark}
use Rattle.mark.specs.Word.{letter_of, bits_of, in_one_word, letters_of, letters_outcome}

-- the two bits of a word's mark i, from 0: bits 2i and 2i + 1
abbrev pub bits_at : ℕ → ℕ → ℕ
bits_at word i = word / 4 ^ i % 4

-- marks in one word have their two bits there
abbrev pub TwoBitsEach : Type 0
TwoBitsEach = (marks : List Mark) (i : ℕ) → i < length marks → bits_at (in_one_word marks) i ≡ bits_of (get_or marks i Mark.Absent)

-- letters that stand for a word: they are those of fourteen marks, and the word is these in one word
pub record StandFor (letters : List ℕ) (word : ℕ) : Type 0 where
  pub marks : List Mark
  pub fourteen : length marks ≡ 14
  pub letters_are : map letter_of marks ≡ letters
  pub word_is : in_one_word marks ≡ word

-- a number has letters: given room they are written, and their word is that number again
pub record HasLetters (word : ℕ) : Type 0 where
  pub given : (old : List ℕ) → 14 ≤ length old → letters_outcome word old ≡ wrote (letters_of word) old
  pub again : StandFor (letters_of word) word

-- so has every number below 2^28
abbrev pub EachHasLetters : Type 0
EachHasLetters = (word : ℕ) → word < 2 ^ 28 → HasLetters word

-- letters stand for one word only
abbrev pub OneWord : Type 0
OneWord = (letters : List ℕ) (v w : ℕ) → StandFor letters v → StandFor letters w → v ≡ w

-- and it is below 2^28 and has these letters only
abbrev pub OneSpelling : Type 0
OneSpelling = (letters : List ℕ) (word : ℕ) → StandFor letters word → (word < 2 ^ 28) × (letters_of word ≡ letters)
