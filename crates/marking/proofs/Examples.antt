-- 01's examples 1, 10, 11 and 12 and the marks of its listing, as one table that antt computes. Assumes nothing.
use Prim.Native.Nat.{ℕ, ◌+◌, ◌*◌}
use mathlib.Core.Path.{◌≡◌, refl}
use mathlib.Core.List.{List, [], ◌∷◌, ◌++◌}
use lib.ListN.{replicate}
use Rattle.answers.specs.declared.Refusal.{Refusal}
use Rattle.answers.specs.Tells.{success, refusal}
use Rattle.buffer.specs.Ascii.{ascii}
use Rattle.buffer.specs.Written.{written, wrote, refused}
use Rattle.mark.specs.Word.{letters_of}
use Rattle.record.specs.Ages.{is_age}
use Rattle.reading.specs.Cut.{lacking}
use Rattle.reading.specs.Reading.{if_whole, if_age}
use Rattle.marking.specs.Marks.{mark_between, word_in, word_of, word_told, letters_in, marks_of, marks_outcome, held_back, held_of}

-- the listing's first record
abbrev listed : List ℕ
listed = 16 ∷ 0 ∷ 0 ∷ 0 ∷ 54 ∷ 1 ∷ 0 ∷ 0 ∷ 101 ∷ 110 ∷ 85 ∷ 83 ∷ 1 ∷ 0 ∷ 240 ∷ 0 ∷ []

-- a record of a size, zero but for one byte, 1, with `after` zeros behind it
abbrev one_byte : ℕ → ℕ → ℕ → List ℕ
one_byte size before after = size ∷ replicate before 0 ++ (1 ∷ replicate after 0)

pub examples :
    -- 1. fifteen zero bytes: 1; sixteen: taken, and not held back
    (held_of 16 (replicate 15 0) ≡ refusal Refusal.TooFewBytes)
    × (held_of 16 (replicate 16 0) ≡ success 0)
    -- 10. size 36, dp word not zero: age 32 holds back, 36 shows
    × (held_of 32 (one_byte 36 31 3) ≡ success 1)
    × (held_of 36 (one_byte 36 31 3) ≡ success 0)
    -- 11. size 44, byte 40 is 1: age 40 holds back, 48 shows
    × (held_of 40 (one_byte 44 39 3) ≡ success 1)
    × (held_of 48 (one_byte 44 39 3) ≡ success 0)
    -- 12. size 65, byte 64 is 1: age 64 holds back
    × (held_of 64 (one_byte 65 63 0) ≡ success 1)
    -- the age is tested first
    × (held_of 33 [] ≡ refusal Refusal.NotAnAge)
    -- the listing's marks; a field is A where the record is too short to hold it, and never B
    × (marks_of 64 listed ≡ ascii "FFFAAAAAAAAAAA")
    × (marks_of 64 (replicate 16 0) ≡ ascii "BBBAAAAAAAAAAA")
    × (marks_of 40 (one_byte 44 39 3) ≡ ascii "BBBBBBBBBUUUUU")
    × (marks_of 48 (one_byte 44 39 3) ≡ ascii "BBBBBBBBBAUUUU")
    -- the same in one word, imsi lowest: 2 for F, 1 for B, 0 for A, 3 for U
    × (word_told 64 listed ≡ success (2 + 4 * 2 + 16 * 2))
    × (word_of 64 (replicate 16 0) ≡ 1 + 4 * 1 + 16 * 1)
    × (word_told 33 [] ≡ refusal Refusal.NotAnAge)
    × (word_told 64 [] ≡ refusal Refusal.TooFewBytes)
    -- 3, 1, 2, then 5
    × (marks_outcome 33 [] (7 ∷ []) ≡ refused Refusal.NotAnAge (7 ∷ []))
    × (marks_outcome 64 [] (7 ∷ []) ≡ refused Refusal.TooFewBytes (7 ∷ []))
    × (marks_outcome 64 (17 ∷ replicate 15 0) (7 ∷ []) ≡ refused Refusal.UndecodedCut (7 ∷ []))
    × (marks_outcome 64 listed (replicate 13 7) ≡ refused Refusal.ShortBuffer (replicate 13 7))
    × (marks_outcome 64 listed (replicate 15 7) ≡ wrote (ascii "FFFAAAAAAAAAAA") (replicate 15 7))
unfolding if_whole lacking if_age is_age held_back word_in letters_in letters_of mark_between written
examples = (refl, refl, refl, refl, refl, refl, refl, refl, refl, refl, refl, refl, refl, refl, refl, refl, refl, refl, refl, refl, refl)
