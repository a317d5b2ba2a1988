-- Words and letters that antt computes. Assumes nothing.
use Prim.Native.Nat.{◌+◌, ◌*◌}
use mathlib.Core.Path.{◌≡◌, refl}
use mathlib.Core.List.{[], ◌∷◌}
use lib.ListN.{replicate}
use Rattle.answers.specs.declared.Refusal.{Refusal}
use Rattle.buffer.specs.Ascii.{ascii}
use Rattle.buffer.specs.Written.{written, wrote, refused}
use Rattle.mark.specs.declared.Mark.{Mark}
use Rattle.mark.specs.Word.{in_one_word, letters_of, letters_outcome}

pub examples :
    -- the first mark is lowest
    (in_one_word (Mark.Filled ∷ Mark.Blank ∷ Mark.Unknown ∷ Mark.Absent ∷ []) ≡ 2 + 4 * 1 + 16 * 3)
    × (letters_of 54 ≡ ascii "FBUAAAAAAAAAAA")
    × (letters_of 0 ≡ ascii "AAAAAAAAAAAAAA")
    × (letters_of 0x0fffffff ≡ ascii "UUUUUUUUUUUUUU")
    -- 12, then 5
    × (letters_outcome 0x10000000 (7 ∷ []) ≡ refused Refusal.TopBits (7 ∷ []))
    × (letters_outcome 0xffffffff (replicate 15 7) ≡ refused Refusal.TopBits (replicate 15 7))
    × (letters_outcome 54 (replicate 13 7) ≡ refused Refusal.ShortBuffer (replicate 13 7))
    × (letters_outcome 54 (replicate 15 7) ≡ wrote (ascii "FBUAAAAAAAAAAA") (replicate 15 7))
unfolding letters_of written
examples = (refl, refl, refl, refl, refl, refl, refl, refl)
