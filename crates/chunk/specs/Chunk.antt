-- 02, K3: a resource type chunk, the record within its header, and what the calls on one chunk come to. Assumes nothing.
use Rattle.std.specs.Prelude.{ℕ, ◌-◌, List, ◌++◌, Bool, not, cond, ◌||◌, eqb, ltb, length}
use Rattle.answers.specs.declared.Refusal.{Refusal}
use Rattle.answers.specs.declared.Told.{Told}
use Rattle.answers.specs.Tells.{success, refusal}
use Rattle.buffer.specs.Counted.{CountedOutcome, counting}
use Rattle.buffer.specs.Written.{Outcome, written, refused}
use Rattle.record.specs.Table.{part, le}
use Rattle.reading.specs.Reading.{ParseOutcome, parse_took, parse_refused, aged, if_whole, if_age}
use Rattle.marking.specs.Marks.{marks_outcome}
use Rattle.locale.specs.Subtags.{text_replacements}
use Rattle.text.specs.Text.{aged_text}

-- the type that the chunk at the front of s states
abbrev pub type_of : List ℕ → ℕ
type_of s = le (part s 0 2)

-- how many bytes its header has
abbrev pub header_size : List ℕ → ℕ
header_size s = le (part s 2 2)

-- how many bytes the chunk has: so far it is to the next one
abbrev pub chunk_size : List ℕ → ℕ
chunk_size s = le (part s 4 4)

-- what is shown of the head, as stored: id and flags, then, behind two reserved bytes, entry count and entries start
abbrev pub head_shown : List ℕ → List ℕ
head_shown s = part s 8 2 ++ part s 12 8

-- the header's part from 20 on, at whose front the record stands
abbrev pub record_part : List ℕ → List ℕ
record_part s = part s 20 (header_size s - 20)

-- the sizes are wrong: the header is below 20 or above the chunk, or the chunk above the bytes given
abbrev pub wrong_sizes : List ℕ → Bool
wrong_sizes s = ltb (header_size s) 20 || ltb (chunk_size s) (header_size s) || ltb (length s) (chunk_size s)

-- what is given where the head of a type chunk stands at the front of s: 1 comes when there are fewer than 20 bytes, 9 when the type
-- isn't 0x0201, 10 when the sizes are wrong
unfoldable pub if_head : {A : Type 0} → List ℕ → (Refusal → A) → A → A
if_head s refuse give =
    cond (ltb (length s) 20) (refuse Refusal.TooFewBytes)
    (cond (not (eqb (type_of s) 0x0201)) (refuse Refusal.WrongType)
    (cond (wrong_sizes s) (refuse Refusal.WrongSizes) give))

-- what is given where a whole record stands in its header, too: then 1, 2 or 8 of the record
abbrev pub if_chunk : {A : Type 0} → List ℕ → (Refusal → A) → A → A
if_chunk s refuse give = if_head s refuse (if_whole (record_part s) refuse give)

-- how far it is from the chunk at the front of s to the next one: 1, 9, 10, then 1, 2 or 8 of the record
abbrev pub chunk_take : List ℕ → Told
chunk_take s = if_chunk s refusal (success (chunk_size s))

-- writing what is shown of its head: the same, then 5
abbrev pub head_outcome : List ℕ → List ℕ → Outcome
head_outcome s old = if_chunk s (λ why. refused why old) (written (head_shown s) old)

-- its record as a reader of age a reads it: 3, then the same
abbrev pub chunk_parse : ℕ → List ℕ → ParseOutcome
chunk_parse a s = if_age a parse_refused (if_chunk s parse_refused (parse_took (chunk_size s) (aged a (record_part s))))

-- writing its record's text for a reader of age a: 3, 1, 9, 10, then what the text of the record comes to
abbrev pub chunk_text : ℕ → List ℕ → List ℕ → Outcome
chunk_text a s old = if_age a (λ why. refused why old) (if_head s (λ why. refused why old) (aged_text a (record_part s) old))

-- that text, with its replacements
abbrev pub chunk_counted : ℕ → List ℕ → List ℕ → CountedOutcome
chunk_counted a s old = counting (text_replacements (aged a (record_part s))) (chunk_text a s old)

-- writing its record's marks for a reader of age a: 3, 1, 9, 10, then what the marks of the record come to
abbrev pub chunk_marks : ℕ → List ℕ → List ℕ → Outcome
chunk_marks a s old = if_age a (λ why. refused why old) (if_head s (λ why. refused why old) (marks_outcome a (record_part s) old))
