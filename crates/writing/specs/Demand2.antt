-- Demand 2: both round trips, writing and reading back, reading and writing back. Assumes nothing.
use Rattle.std.specs.Prelude.{ℕ, ◌≤◌, ◌≡◌, List, ◌↔◌, length, take}
use Rattle.buffer.specs.Written.{wrote}
use Rattle.record.specs.declared.ResTableConfig.{ResTableConfig}
use Rattle.record.specs.Table.{Bytes}
use Rattle.reading.specs.Reading.{plain, parse_of, parse_took, taken}
use Rattle.record.specs.Shape.{Shaped}
use Rattle.writing.specs.Writing.{span, bytes_written, write_of, Kept}

-- A record that the writer takes reads back as the same record, its size included: T bytes are written, and parsing takes them and
-- gives the record, from the lent buffer and from its first T bytes.
abbrev pub ReadsBack : Type 0
ReadsBack =
    (r : ResTableConfig) (old : List ℕ) → Shaped r → (write_of r old).tells.number ≡ 0
    → ((write_of r old).tells.amount ≡ span r)
    × (parse_of (write_of r old).leaves ≡ parse_took (span r) r)
    × (parse_of (take (span r) (write_of r old).leaves) ≡ parse_took (span r) r)

-- the writer takes what parsing gives of s, and what it leaves begins with the T bytes of s exactly when the undecoded ones are zero
-- and the computed-script byte, if held, is 0 or 1
pub record SameBytes (s old : List ℕ) : Type 0 where
  pub takes : write_of (plain s) old ≡ wrote (bytes_written (plain s)) old
  pub same : (take (taken s) (write_of (plain s) old).leaves ≡ take (taken s) s) ↔ Kept s

-- A record's bytes read and written back are the same bytes exactly then: of bytes with a whole record at their front, and a lent buffer
-- of T bytes or more.
abbrev pub WritesBack : Type 0
WritesBack = (s old : List ℕ) → Bytes s → taken s ≤ length s → taken s ≤ length old → SameBytes s old
