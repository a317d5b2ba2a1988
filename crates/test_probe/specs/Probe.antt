-- What the probes answer: what a call tells, a cursor and a run's end, each as one number, and the writer at another size. Assumes nothing.
use Rattle.std.specs.Prelude.{ℕ, ◌+◌, ◌*◌, ◌%◌, ◌≡◌, List}
use Rattle.answers.specs.Tells.{packed_of}
use Rattle.buffer.specs.Written.{Outcome, refused}
use Rattle.record.specs.Blank.{with_size}
use Rattle.reading.specs.Reading.{if_whole, plain}
use Rattle.writing.specs.Writing.{write_of}
use Rattle.runs.specs.declared.RunEnd.{RunEnd}
use Rattle.runs.specs.Fronts.{stop_tells}
use Rattle.lines.specs.declared.Cursor.{Cursor}

-- an answer and a lent buffer are what an outcome tells, packed, and leaves
abbrev pub Comes : ℕ → List ℕ → Outcome → Type 0
Comes r buffer o = (r ≡ packed_of o.tells) × (buffer ≡ o.leaves)

-- two numbers as one: the first times 2^32, and the lower 32 bits of the second
abbrev pub paired : ℕ → ℕ → ℕ
paired high low = high * 4294967296 + low % 4294967296

-- where a run stops, under its number
abbrev pub end_packed : RunEnd → ℕ
end_packed e = paired (stop_tells e.stop).number e.offset

-- what the stop of a run carries: the row of a cut field, and 0 where it stops for another reason
abbrev pub end_row : RunEnd → ℕ
end_row e = (stop_tells e.stop).carried

-- where a listing goes on: a record's offset under the lower 32 bits of its index; the greatest number behind the last line, and one less
-- at the start
abbrev pub cursor_packed : Cursor → ℕ
cursor_packed Cursor.Start = 18446744073709551614
cursor_packed (Cursor.Record i p) = paired (i % 4294967296) p
cursor_packed Cursor.End = 18446744073709551615

-- writing the record at the front of s with another size: 1, 2 or 8, then the writer's 6 and 5
abbrev pub write_sized : List ℕ → ℕ → List ℕ → Outcome
write_sized s n old = if_whole s (λ why. refused why old) (write_of (with_size (plain s) n) old)
