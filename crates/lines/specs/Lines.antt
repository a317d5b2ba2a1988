-- 01, "The listing": its lines, the calls that give one line at a time, and the whole. Assumes nothing.
use Rattle.std.specs.Prelude.{ℕ, suc, ◌+◌, List, [], ◌∷◌, ◌++◌, Bool, cond, eqb, leb, ltb, length, drop}
use Rattle.answers.specs.declared.Refusal.{Refusal}
use Rattle.answers.specs.declared.Told.{Told}
use Rattle.buffer.specs.Ascii.{ascii}
use Rattle.buffer.specs.Decimal.{decimal}
use Rattle.buffer.specs.Written.{Outcome, outcome, written, wrote, refused}
use Rattle.reading.specs.Reading.{if_age}
use Rattle.runs.specs.declared.Stop.{Stop}
use Rattle.runs.specs.Fronts.{by_front, stop_tells}
use Rattle.runs.specs.Runs.{front_at, offsets_of, run_of}
use Rattle.record_line.specs.RecordLine.{newline, space, record_line}
use Rattle.lines.specs.declared.Cursor.{Cursor}
use Rattle.lines.specs.declared.Lined.{Lined}

-- the first line has the age
unfoldable pub age_line : ℕ → List ℕ
age_line a = ascii "age " ++ decimal a ++ newline

-- the number that a stop tells, and behind a 2 the row that it carries
unfoldable pub reason_words : Told → List ℕ
reason_words told = decimal told.number ++ cond (eqb told.number 2) (space ++ decimal told.carried) []

-- the last line has the offset where the run stopped, and why
unfoldable pub stop_line : ℕ → Stop → List ℕ
stop_line p stop = ascii "stop " ++ decimal p ++ space ++ reason_words (stop_tells stop) ++ newline

-- the line at a cursor: at the start the age; at index i and offset p the record that stands there whole, else the stop; none at
-- the end, and none where an index is past its offset, which is so in no listing
unfoldable pub line_at : ℕ → List ℕ → Cursor → List ℕ
line_at a s Cursor.Start = age_line a
line_at a s (Cursor.Record i p) =
    cond (ltb p i) [] (by_front (stop_line p) (λ n. record_line a i p (drop p s)) (front_at s p))
line_at a s Cursor.End = []

-- the cursor behind that line: a record's is followed by the next index, as many bytes further on as it takes
unfoldable pub after : List ℕ → Cursor → Cursor
after s Cursor.Start = Cursor.Record 0 0
after s (Cursor.Record i p) =
    cond (ltb p i) Cursor.End (by_front (λ stop. Cursor.End) (λ n. Cursor.Record (suc i) (p + n)) (front_at s p))
after s Cursor.End = Cursor.End

-- what a call for a line comes to: what it tells and leaves, and the cursor with which the listing goes on
pub record LineOutcome : Type 0 where
  pub does : Outcome
  pub goes : Cursor

-- what an answer with its cursor and a buffer come to
abbrev pub lined_outcome : Lined → List ℕ → LineOutcome
lined_outcome lined buffer = record { does = outcome lined.answer buffer; goes = lined.cursor }

-- a refused call gives back the cursor that came in
abbrev pub line_refused : Refusal → Cursor → List ℕ → LineOutcome
line_refused why c old = record { does = refused why old; goes = c }

-- a line that is given: it is written to the front of the lent buffer, and the listing goes on behind it
abbrev pub line_given : ℕ → List ℕ → Cursor → List ℕ → LineOutcome
line_given a s c old = record { does = wrote (line_at a s c) old; goes = after s c }

-- a line w is written and the listing goes on at next; where the lent buffer is shorter than w, it is refused with 5 and stays at c
abbrev pub line_written : List ℕ → Cursor → Cursor → List ℕ → LineOutcome
line_written w c next old = record { does = written w old; goes = cond (leb (length w) (length old)) next c }

-- more than 65,536 bytes of input
abbrev pub too_much : List ℕ → Bool
too_much s = ltb 65536 (length s)

-- a call for the line at cursor c of s, for a reader of age a: 7, 3, then 5
unfoldable pub line_of : ℕ → List ℕ → Cursor → List ℕ → LineOutcome
line_of a s c old =
    cond (too_much s) (line_refused Refusal.TooMuchInput c old)
    (if_age a (λ why. line_refused why c old) (line_written (line_at a s c) c (after s c) old))

-- a row of calls, one for each of the lent buffers, each going on with the cursor that the one before gave back
unfoldable pub calls_of : ℕ → List ℕ → Cursor → List (List ℕ) → List Outcome
calls_of a s c [] = []
calls_of a s c (old ∷ olds) = (line_of a s c old).does ∷ calls_of a s (line_of a s c old).goes olds

-- the cursor that the last of them gave back
unfoldable pub cursor_of : ℕ → List ℕ → Cursor → List (List ℕ) → Cursor
cursor_of a s c [] = c
cursor_of a s c (old ∷ olds) = cursor_of a s (line_of a s c old).goes olds

-- the lines of the records of s at some offsets, with the indices from i on
unfoldable pub record_lines : ℕ → List ℕ → ℕ → List ℕ → List (List ℕ)
record_lines a s i [] = []
record_lines a s i (p ∷ ps) = record_line a i p (drop p s) ∷ record_lines a s (suc i) ps

-- the listing of s at age a: the age, a line for each record of the run, and where it stopped; too much input has no record lines
-- and stops at 0 with 7
unfoldable pub listing_of : ℕ → List ℕ → List (List ℕ)
listing_of a s =
    cond (too_much s) (age_line a ∷ stop_line 0 (Stop.Refused Refusal.TooMuchInput) ∷ [])
    (age_line a ∷ record_lines a s 0 (offsets_of s 0) ++ (stop_line (run_of s 0).offset (run_of s 0).stop ∷ []))
