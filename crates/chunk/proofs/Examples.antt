-- Chunks by computation: a whole one, and each refusal in its turn. Assumes nothing.
use Prim.Native.Nat.{ℕ}
use mathlib.Core.Path.{◌≡◌, refl}
use mathlib.Core.List.{List, [], ◌∷◌, ◌++◌}
use lib.ListN.{replicate}
use Rattle.answers.specs.declared.Refusal.{Refusal}
use Rattle.answers.specs.Tells.{success, refusal}
use Rattle.buffer.specs.Written.{written, refused}
use Rattle.record.specs.Ages.{is_age}
use Rattle.reading.specs.Cut.{lacking}
use Rattle.reading.specs.Reading.{if_age, if_whole}
use Rattle.mark.specs.Word.{letters_of}
use Rattle.marking.specs.Marks.{held_back, letters_in}
use Rattle.chunk.specs.Chunk.{if_head, chunk_take, head_outcome, chunk_text, chunk_marks}

-- a head of these two sizes: id 3, flags 1, five entries, which start at 60
abbrev pub head_of : ℕ → ℕ → List ℕ
head_of header size = 1 ∷ 2 ∷ header ∷ 0 ∷ size ∷ 0 ∷ 0 ∷ 0 ∷ 3 ∷ 1 ∷ 0 ∷ 0 ∷ 5 ∷ 0 ∷ 0 ∷ 0 ∷ 60 ∷ 0 ∷ 0 ∷ 0 ∷ []

-- a record of sixteen bytes, one of twenty whose last byte isn't zero, and one that is cut
abbrev pub small : List ℕ
small = 16 ∷ replicate 15 0

abbrev pub later : List ℕ
later = 20 ∷ (replicate 18 0 ++ (1 ∷ []))

pub takes :
    (chunk_take (head_of 36 38 ++ small ++ (7 ∷ 7 ∷ 7 ∷ [])) ≡ success 38)
    × (chunk_take (head_of 40 40 ++ small ++ replicate 4 255) ≡ success 40)
    × (chunk_take (replicate 19 0) ≡ refusal Refusal.TooFewBytes)
    × (chunk_take (replicate 20 0) ≡ refusal Refusal.WrongType)
    × (chunk_take (head_of 19 36 ++ small) ≡ refusal Refusal.WrongSizes)
    × (chunk_take (head_of 37 36 ++ small) ≡ refusal Refusal.WrongSizes)
    × (chunk_take (head_of 36 37 ++ small) ≡ refusal Refusal.WrongSizes)
    × (chunk_take (head_of 35 36 ++ small) ≡ refusal Refusal.TooFewBytes)
    × (chunk_take (head_of 39 40 ++ later) ≡ refusal (Refusal.FieldCut 4))
    × (chunk_take (head_of 36 40 ++ (17 ∷ replicate 19 0)) ≡ refusal Refusal.UndecodedCut)
unfolding if_head if_whole lacking
takes = (refl, refl, refl, refl, refl, refl, refl, refl, refl, refl)

pub shows :
    (head_outcome (head_of 36 36 ++ small) (replicate 11 9) ≡ record { tells = success 10; leaves = 3 ∷ 1 ∷ 5 ∷ 0 ∷ 0 ∷ 0 ∷ 60 ∷ 0 ∷ 0 ∷ 0 ∷ 9 ∷ [] })
    × (head_outcome (head_of 36 36 ++ small) (replicate 9 9) ≡ refused Refusal.ShortBuffer (replicate 9 9))
    × (chunk_text 42 (replicate 19 0) (9 ∷ []) ≡ refused Refusal.NotAnAge (9 ∷ []))
    × (chunk_text 16 (head_of 40 40 ++ later) (9 ∷ []) ≡ refused Refusal.HeldBack (9 ∷ []))
    × (chunk_marks 16 (head_of 40 40 ++ small ++ replicate 4 255) (9 ∷ []) ≡ refused Refusal.ShortBuffer (9 ∷ []))
unfolding if_head if_whole lacking if_age is_age held_back letters_in letters_of written
shows = (refl, refl, refl, refl, refl)
