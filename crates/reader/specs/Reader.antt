-- 01, "Ages, marks, runs": the run reader, a small struct that holds the lent bytes and its offset, beside an age. Assumes nothing.
use Rattle.std.specs.Prelude.{ℕ, List}
use Rattle.std.specs.Borrow.{Bor}
use Rattle.record.specs.declared.ages.Age.{Age}
use Rattle.record.specs.Ages.{default_age}
use Rattle.reader.specs.declared.RunReader.{RunReader}

-- a reader of the lent bytes b at offset p, of age a
abbrev pub reader_at : Bor (List ℕ) → ℕ → Age → RunReader
reader_at b p a = record { bytes = b; offset = p; age = a }

-- a reader that is made without an offset stands at the front, and one that is made without an age is of the default age
abbrev pub reader_of : Bor (List ℕ) → RunReader
reader_of b = reader_at b 0 (record { 0 = default_age })
