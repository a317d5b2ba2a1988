-- 01, "Ages, marks, runs", and 02, K8: a mark's letter and its two bits, and fourteen marks in one word. Assumes nothing.
use Rattle.std.specs.Prelude.{ℕ, zero, suc, ◌+◌, ◌*◌, ◌/◌, ◌%◌, ◌^◌, List, [], ◌∷◌, map, Bool, cond, not, eqb, get_or}
use Prim.Native.String.{String}
use Rattle.answers.specs.declared.Refusal.{Refusal}
use Rattle.buffer.specs.Ascii.{ascii}
use Rattle.buffer.specs.Written.{Outcome, written, refused}
use Rattle.mark.specs.declared.Mark.{Mark}

-- a letter's byte
abbrev pub letter : String → ℕ
letter w = get_or (ascii w) 0 0

-- the letter of each mark
abbrev pub letter_of : Mark → ℕ
letter_of Mark.Absent = letter "A"
letter_of Mark.Blank = letter "B"
letter_of Mark.Filled = letter "F"
letter_of Mark.Unknown = letter "U"

-- the two bits of each mark
abbrev pub bits_of : Mark → ℕ
bits_of Mark.Absent = 0
bits_of Mark.Blank = 1
bits_of Mark.Filled = 2
bits_of Mark.Unknown = 3

-- marks in one word: two bits each, the first mark's lowest
abbrev pub in_one_word : List Mark → ℕ
in_one_word [] = 0
in_one_word (m ∷ ms) = bits_of m + 4 * in_one_word ms

-- the mark of two bits
abbrev pub mark_of_bits : ℕ → Mark
mark_of_bits bits = cond (eqb bits 0) Mark.Absent (cond (eqb bits 1) Mark.Blank (cond (eqb bits 2) Mark.Filled Mark.Unknown))

-- the first n marks of a word: two bits each, the lowest first
abbrev pub marks_in : ℕ → ℕ → List Mark
marks_in zero word = []
marks_in (suc n) word = mark_of_bits (word % 4) ∷ marks_in n (word / 4)

-- the letters of a word's fourteen marks
unfoldable pub letters_of : ℕ → List ℕ
letters_of word = map letter_of (marks_in 14 word)

-- whether a bit from 28 up is set, above those of the fourteen marks
abbrev pub top_bits : ℕ → Bool
top_bits word = not (eqb (word / 2 ^ 28) 0)

-- writing the letters of a word: 12, then 5
abbrev pub letters_outcome : ℕ → List ℕ → Outcome
letters_outcome word old = cond (top_bits word) (refused Refusal.TopBits old) (written (letters_of word) old)
