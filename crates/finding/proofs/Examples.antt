-- Entries looked through by hand, which antt computes. Assumes nothing.
use Prim.Native.Nat.{ℕ}
use mathlib.Core.Path.{◌≡◌, refl}
use mathlib.Core.List.{List, [], ◌∷◌, ◌++◌}
use lib.ListN.{take, drop, replicate}
use Rattle.std.specs.Prelude.{None, Some}
use Rattle.answers.specs.declared.Refusal.{Refusal}
use Rattle.answers.specs.Tells.{success, refusal}
use Rattle.buffer.specs.Ascii.{ascii}
use Rattle.keys.specs.Keys.{key_of}
use Rattle.reading.specs.Cut.{lacking}
use Rattle.reading.specs.Reading.{reads, field_by, record_by, plain, if_whole}
use Rattle.finding.specs.Finding.{has_key, place_of, find_of, find_told}

-- a record of sixteen bytes: mcc 310, locale "enUS", screen type 1 0 240 0
abbrev sixteen : List ℕ
sixteen = 16 ∷ 0 ∷ 0 ∷ 0 ∷ 54 ∷ 1 ∷ 0 ∷ 0 ∷ ascii "enUS" ++ (1 ∷ 0 ∷ 240 ∷ 0 ∷ [])

-- an entry: a key that begins with some bytes and goes on with zeros, n of them, then an offset and a count, which are 7 in each byte
abbrev entry : List ℕ → ℕ → List ℕ
entry front n = front ++ (replicate n 0 ++ replicate 16 7)

-- the entry of that record, and two that differ from it in the first byte and in the last
abbrev its : List ℕ
its = entry (0 ∷ 0 ∷ 1 ∷ 54 ∷ ascii "SUne" ++ (0 ∷ 240 ∷ 0 ∷ 1 ∷ [])) 48

abbrev first_other : List ℕ
first_other = entry (1 ∷ 0 ∷ 1 ∷ 54 ∷ ascii "SUne" ++ (0 ∷ 240 ∷ 0 ∷ 1 ∷ [])) 48

abbrev last_other : List ℕ
last_other = entry (0 ∷ 0 ∷ 1 ∷ 54 ∷ ascii "SUne" ++ (0 ∷ 240 ∷ 0 ∷ 1 ∷ replicate 47 0 ++ (9 ∷ []))) 0

pub examples :
    -- no entries; those of others; its own behind them; its own twice, of which the first counts
    (find_of [] (plain sixteen) ≡ None)
    × (find_of (first_other ++ last_other) (plain sixteen) ≡ None)
    × (find_of (first_other ++ (last_other ++ its)) (plain sixteen) ≡ Some 2)
    × (find_of (last_other ++ (its ++ its)) (plain sixteen) ≡ Some 1)
    -- an entry whose last byte is lacking isn't one, and bytes behind the last whole one don't matter
    × (find_of (last_other ++ take 75 its) (plain sixteen) ≡ None)
    × (find_of (its ++ take 75 last_other) (plain sixteen) ≡ Some 0)
    -- an entry stands at every 76th byte only
    × (find_of (0 ∷ its ++ its) (plain sixteen) ≡ None)
    -- 0 of nothing, 1 + the place of an entry, and the record's refusals
    × (find_told [] sixteen ≡ success 0)
    × (find_told its sixteen ≡ success 1)
    × (find_told (last_other ++ its) (sixteen ++ (5 ∷ [])) ≡ success 2)
    × (find_told its (take 15 sixteen) ≡ refusal Refusal.TooFewBytes)
    × (find_told its (17 ∷ drop 1 sixteen) ≡ refusal Refusal.UndecodedCut)
unfolding find_told find_of place_of has_key key_of plain record_by field_by reads if_whole lacking
examples = (refl, refl, refl, refl, refl, refl, refl, refl, refl, refl, refl, refl)
