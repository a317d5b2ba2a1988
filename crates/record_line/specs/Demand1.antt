-- Demand 1 of a record's line: when a call for it is refused. Assumes nothing.
use Rattle.std.specs.Prelude.{ℕ, List, [], ◌∷◌, length}
use Rattle.buffer.specs.Demand1.{shorter_than, Refuses}
use Rattle.reading.specs.Demand1.{fewer_than16, fewer_than_size, not_an_age}
use Rattle.record_line.specs.RecordLine.{record_line, record_line_of}

-- `record_line`: 3, 1, 2 or 8, 5
abbrev pub RecordLineRefuses : ℕ → ℕ → ℕ → List ℕ → List ℕ → Type 0
RecordLineRefuses a i p s old =
    Refuses (not_an_age a ∷ fewer_than16 s ∷ fewer_than_size s ∷ shorter_than (length (record_line a i p s)) old ∷ []) old (record_line_of a i p s old)
