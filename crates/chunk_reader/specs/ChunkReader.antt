-- 02, K3: the reader of a run of chunks, a small struct that holds the lent bytes and its offset, beside an age. Assumes nothing.
use Rattle.std.specs.Prelude.{ℕ, List}
use Rattle.std.specs.Borrow.{Bor}
use Rattle.record.specs.declared.ages.Age.{Age}
use Rattle.record.specs.Ages.{default_age}
use Rattle.chunk_reader.specs.declared.ChunkReader.{ChunkReader}

-- a reader of the chunks of the lent bytes b at offset p, of age a
abbrev pub chunk_reader_at : Bor (List ℕ) → ℕ → Age → ChunkReader
chunk_reader_at b p a = record { bytes = b; offset = p; age = a }

-- a reader that is made without an offset stands at the front, and one that is made without an age is of the default age
abbrev pub chunk_reader_of : Bor (List ℕ) → ChunkReader
chunk_reader_of b = chunk_reader_at b 0 (record { 0 = default_age })
