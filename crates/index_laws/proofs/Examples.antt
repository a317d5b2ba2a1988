-- An index by computation: three records of which two are Equal, worked out by hand. Assumes nothing.
use Prim.Native.Nat.{ℕ}
use mathlib.Core.Path.{◌≡◌, refl}
use mathlib.Core.List.{List, [], ◌∷◌, ◌++◌}
use lib.ListN.{replicate}
use Rattle.answers.specs.declared.Refusal.{Refusal}
use Rattle.buffer.specs.Ascii.{ascii}
use Rattle.buffer.specs.Written.{refused}
use Rattle.keys.specs.Keys.{key_of}
use Rattle.order.specs.Order.{order_of}
use Rattle.reading.specs.Cut.{lacking}
use Rattle.reading.specs.Reading.{plain, record_by, field_by, reads, if_whole}
use Rattle.order_at.specs.OrderAt.{plain_at, order_at}
use Rattle.rising.specs.Rising.{count_equal, without, distinct, sorted_in, sorted}
use Rattle.entries.specs.Entry.{entry_of}
use Rattle.runs.specs.Fronts.{offsets_in}
use Rattle.runs.specs.Runs.{front_at}
use Rattle.index.specs.Index.{firsts, entries_at, index_of, index_written}

-- Serbian, in sixteen bytes and in twenty with a blank field more: Equal. French, in sixteen bytes. Three bytes behind them are no record.
abbrev sixteen : List ℕ → List ℕ
sixteen language = 16 ∷ 0 ∷ 0 ∷ 0 ∷ 0 ∷ 0 ∷ 0 ∷ 0 ∷ (language ++ (0 ∷ 0 ∷ 0 ∷ 0 ∷ 0 ∷ 0 ∷ []))

abbrev run : List ℕ
run = sixteen (ascii "sr") ++ (sixteen (ascii "fr") ++ (20 ∷ 0 ∷ 0 ∷ 0 ∷ 0 ∷ 0 ∷ 0 ∷ 0 ∷ (ascii "sr" ++ (replicate 10 0 ++ (1 ∷ 2 ∷ 3 ∷ [])))))

-- the language is the low half of the locale, whose bytes stand in a key from the highest to the lowest
abbrev entry : List ℕ → ℕ → ℕ → List ℕ
entry turned offset count = 0 ∷ 0 ∷ 0 ∷ 0 ∷ 0 ∷ 0 ∷ (turned ++ (replicate 52 0 ++ (offset ∷ replicate 7 0 ++ (count ∷ replicate 7 0))))

pub examples :
    -- French comes first: both keys have r, and behind it f is less than s
    (firsts run ≡ 16 ∷ 0 ∷ [])
    × (index_of run ≡ entry (ascii "rf") 16 1 ++ entry (ascii "rs") 0 2)
    -- one byte less than two entries need
    × (index_written run (replicate 151 9) ≡ refused Refusal.ShortBuffer (replicate 151 9))
    -- no record, no entry
    × (index_of (replicate 15 0) ≡ [])
unfolding offsets_in front_at if_whole lacking plain_at order_at order_of plain record_by field_by reads without distinct sorted_in sorted count_equal entries_at entry_of key_of index_written
examples = (refl, refl, refl, refl)
