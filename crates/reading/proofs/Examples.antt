-- 01's examples 1, 2, 3 and 10, where records are cut, and what is easy to get wrong, as one table that antt computes. Assumes nothing.
use Prim.Native.Nat.{ℕ}
use mathlib.Core.Path.{◌≡◌, refl}
use mathlib.Core.List.{List, [], ◌∷◌, ◌++◌}
use lib.ListN.{replicate}
use Rattle.answers.specs.declared.Refusal.{Refusal}
use Rattle.answers.specs.Tells.{success, refusal}
use Rattle.record.specs.Ages.{is_age}
use Rattle.record.specs.Blank.{blank_record}
use Rattle.reading.specs.Cut.{lacking}
use Rattle.reading.specs.Reading.{reads, field_by, record_by, plain, aged, if_whole, if_age, parse_of, parse_aged, take_of}

-- a record of the size that its first byte says, with the bytes of `middle` from offset 32 on and zeros up to there
abbrev from32 : ℕ → List ℕ → List ℕ
from32 size middle = size ∷ replicate 31 0 ++ middle

-- size 44, 44 bytes: script "Latn" and half a variant
abbrev half : List ℕ
half = from32 44 (0 ∷ 0 ∷ 0 ∷ 0 ∷ 76 ∷ 97 ∷ 116 ∷ 110 ∷ 1 ∷ 2 ∷ 3 ∷ 4 ∷ [])

-- size 36: a dp word that is 320 and 480
abbrev wide : List ℕ
wide = from32 36 (64 ∷ 1 ∷ 224 ∷ 1 ∷ [])

pub examples :
    -- 1. fifteen zero bytes: 1; sixteen: taken, and nothing is in the record, although its size is 0
    ((parse_of (replicate 15 0)).tells ≡ refusal Refusal.TooFewBytes)
    × (parse_of (replicate 16 0) ≡ record { tells = success 16; gives = blank_record })
    × (take_of (replicate 40 0) ≡ success 16)
    -- 2. size 17 in 16 bytes: 8; in 17: takes 17
    × (parse_of (17 ∷ replicate 15 0) ≡ record { tells = refusal Refusal.UndecodedCut; gives = blank_record })
    × ((parse_of (17 ∷ replicate 16 0)).tells ≡ success 17)
    -- 3. size 44, 44 bytes: script read, variant zero
    × ((parse_of half).tells ≡ success 44)
    × ((parse_of half).gives.locale_script ≡ 76 ∷ 97 ∷ 116 ∷ 110 ∷ [])
    × ((parse_of half).gives.locale_variant ≡ replicate 8 0)
    -- 10. size 36, dp word not zero: a reader of age 32 doesn't read it, one of age 36 does
    × ((parse_aged 32 wide).tells ≡ success 36)
    × ((parse_aged 32 wide).gives.screen_size_dp ≡ 0)
    × ((parse_aged 36 wide).gives.screen_size_dp ≡ 31457600)
    -- size 64 in 40 bytes: the variant is cut, and the script just before it isn't; in 47 still; in 48 the next one is
    × (take_of (64 ∷ replicate 39 0) ≡ refusal (Refusal.FieldCut 10))
    × (take_of (64 ∷ replicate 46 0) ≡ refusal (Refusal.FieldCut 10))
    × (take_of (64 ∷ replicate 47 0) ≡ refusal (Refusal.FieldCut 11))
    -- the first row that can be cut, and the last; the age doesn't matter
    × (take_of (20 ∷ replicate 15 0) ≡ refusal (Refusal.FieldCut 4))
    × (take_of (64 ∷ replicate 62 0) ≡ refusal (Refusal.FieldCut 14))
    × (parse_aged 36 (64 ∷ replicate 39 0) ≡ record { tells = refusal (Refusal.FieldCut 10); gives = blank_record })
    -- size 63 in 61 bytes: end_padding isn't held, so no field is cut; size 65 in 64, the same
    × (take_of (63 ∷ replicate 60 0) ≡ refusal Refusal.UndecodedCut)
    × (take_of (65 ∷ replicate 63 0) ≡ refusal Refusal.UndecodedCut)
    -- 3 comes first
    × (parse_aged 33 [] ≡ record { tells = refusal Refusal.NotAnAge; gives = blank_record })
unfolding if_whole lacking if_age is_age plain aged record_by field_by reads
examples =
    (refl, refl, refl, refl, refl, refl, refl, refl, refl, refl, refl, refl, refl, refl, refl, refl, refl, refl, refl, refl)
