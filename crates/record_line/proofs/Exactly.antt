-- When a call for a record's line is refused, and with which number. Assumes nothing.
use Prim.Native.Nat.{ℕ}
use mathlib.Core.Path.{refl}
use mathlib.Core.List.{List}
use Rattle.buffer.proofs.Exactly.{written_row, refuses_by}
use Rattle.reading.proofs.Exactly.{whole_row, age_row}
use Rattle.record_line.specs.RecordLine.{record_line}
use Rattle.record_line.specs.Demand1.{RecordLineRefuses}

-- `record_line`: 3, 1, 2 or 8, 5
pub record_line_exactly : (a i p : ℕ) (s old : List ℕ) → RecordLineRefuses a i p s old
record_line_exactly a i p s old = refuses_by refl (age_row a (whole_row s (written_row (record_line a i p s) old)))
