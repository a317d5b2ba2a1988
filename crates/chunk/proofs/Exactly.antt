-- When the calls on a chunk are refused, and with which number. Assumes nothing.
use Prim.Native.Nat.{ℕ}
use mathlib.Core.Path.{◌≡◌, refl, sym, ◌∙◌}
use mathlib.Core.Bool.{Bool, true, false}
use mathlib.Core.List.{List}
use lib.ListN.{length}
use borrow.Author.Tests.{ltb-false}
use Rattle.answers.specs.declared.Refusal.{Refusal}
use Rattle.answers.proofs.Exactly.{none_left, one_more, told_exactly}
use Rattle.buffer.specs.Written.{refused}
use Rattle.buffer.proofs.Exactly.{written_row, refuses_by}
use Rattle.record.specs.Ages.{is_age}
use Rattle.reading.specs.Reading.{aged, if_age}
use Rattle.reading.proofs.Exactly.{age_row, gives_exactly}
use Rattle.reading.proofs.Whole.{age_known, age_unknown}
use Rattle.mark.specs.Word.{letters_of}
use Rattle.marking.specs.Marks.{letters_in, marks_of}
use Rattle.marking.specs.Demand1.{is_held_back}
use Rattle.places.specs.Places.{text_of}
use Rattle.chunk.specs.Chunk.{head_shown, record_part, if_head}
use Rattle.chunk.specs.Demand1.{ChunkTakeRefuses, HeadRefuses, TenShown, ChunkParseRefuses, ChunkTextRefuses, ChunkMarksRefuse}
use Rattle.chunk.proofs.Head.{chunk_row, shown_long}

-- `take_chunk`: 1, 9, 10, then 1, 2 or 8 of the record
pub take_exactly : (s : List ℕ) → ChunkTakeRefuses s
take_exactly s = told_exactly (chunk_row s none_left)

-- `parse_chunk`: 3, then those
pub parse_exactly : (a : ℕ) (s : List ℕ) → ChunkParseRefuses a s
parse_exactly a s = gives_exactly (age_row a (chunk_row s none_left))

-- an age that is asked for once more behind a head is none the second time, either
pub once : {A : Type 0} (a : ℕ) (s : List ℕ) (refuse : Refusal → A) (give : A)
    → if_age a refuse (if_head s refuse (if_age a refuse give)) ≡ if_age a refuse (if_head s refuse give)
once a s refuse give = by (is_age a) refl where
  by : (b : Bool) → b ≡ is_age a → if_age a refuse (if_head s refuse (if_age a refuse give)) ≡ if_age a refuse (if_head s refuse give)
  by true e = rw (age_known a refuse give e)
  by false e = age_unknown a refuse (if_head s refuse (if_age a refuse give)) e ∙ sym (age_unknown a refuse (if_head s refuse give) e)

-- `chunk_head`: those, 5
pub head_exactly : (s old : List ℕ) → HeadRefuses s old
head_exactly s old = refuses_by refl (chunk_row s (written_row (head_shown s) old))

-- ten bytes are shown
pub ten_shown : (s : List ℕ) → TenShown s
ten_shown s none = shown_long s (ltb-false (length s) 20 none.0)

-- `chunk_text`: 3, those, 4 of the record, 5
pub text_exactly : (a : ℕ) (s old : List ℕ) → ChunkTextRefuses a s old
text_exactly a s old =
    let t = record_part s in
    rw (once a s (λ why. refused why old) _)
    (refuses_by refl (age_row a (chunk_row s (one_more (is_held_back a t) (written_row (text_of (aged a t)) old)))))

-- `chunk_marks`, of fourteen letters: 3, those, 5
pub marks_exactly : (a : ℕ) (s old : List ℕ) → ChunkMarksRefuse a s old
unfolding letters_in letters_of
marks_exactly a s old =
    rw (once a s (λ why. refused why old) _) (refuses_by refl (age_row a (chunk_row s (written_row (marks_of a (record_part s)) old))))
