-- Demand 1 of the calls on one chunk: when they are refused. Assumes nothing.
use Rattle.std.specs.Prelude.{ℕ, ◌≤◌, ◌<◌, ◌≡◌, not, List, [], ◌∷◌, ◌↔◌, ◌⊎◌, eqb, ltb, length}
use Rattle.answers.specs.declared.Refusal.{Refusal}
use Rattle.answers.specs.Demand1.{Condition, NoneOf, Exactly}
use Rattle.answers.specs.Tells.{refusal}
use Rattle.buffer.specs.Demand1.{shorter_than, Refuses}
use Rattle.reading.specs.Reading.{aged}
use Rattle.reading.specs.Demand1.{fewer_than16, fewer_than_size, not_an_age}
use Rattle.marking.specs.Demand1.{is_held_back}
use Rattle.places.specs.Places.{text_of}
use Rattle.chunk.specs.Chunk.{type_of, header_size, chunk_size, head_shown, record_part, wrong_sizes, chunk_take, head_outcome, chunk_parse, chunk_text, chunk_marks}

-- 1: fewer than 20 bytes
abbrev pub fewer_than20 : List ℕ → Condition
fewer_than20 s = record { holds = ltb (length s) 20; why = Refusal.TooFewBytes }

-- 9: the type isn't 0x0201
abbrev pub other_type : List ℕ → Condition
other_type s = record { holds = not (eqb (type_of s) 0x0201); why = Refusal.WrongType }

-- 10: header size below 20, above chunk size, or chunk size above the bytes given
abbrev pub sizes_wrong : List ℕ → Condition
sizes_wrong s = record { holds = wrong_sizes s; why = Refusal.WrongSizes }

-- the conditions of every call on a chunk, in their order, before those of a row: 1, 9, 10, then 1, 2 or 8 of the record in its header
abbrev pub chunk_first : List ℕ → List Condition → List Condition
chunk_first s row = fewer_than20 s ∷ other_type s ∷ sizes_wrong s ∷ fewer_than16 (record_part s) ∷ fewer_than_size (record_part s) ∷ row

-- `take_chunk`: those
abbrev pub ChunkTakeRefuses : List ℕ → Type 0
ChunkTakeRefuses s = Exactly (chunk_first s []) (chunk_take s)

-- 9 comes exactly when there are 20 bytes or more and the type is another
abbrev pub OtherTypeRefused : List ℕ → Type 0
OtherTypeRefused s = (chunk_take s ≡ refusal Refusal.WrongType) ↔ ((20 ≤ length s) × (type_of s ≡ 0x0201 → ⊥))

-- 10 comes exactly when there are 20 bytes or more, of that type, and one of the three sizes doesn't fit
abbrev pub SizesRefused : List ℕ → Type 0
SizesRefused s =
    (chunk_take s ≡ refusal Refusal.WrongSizes)
    ↔ ((20 ≤ length s) × (type_of s ≡ 0x0201) × ((header_size s < 20) ⊎ (chunk_size s < header_size s) ⊎ (length s < chunk_size s)))

-- `chunk_head`: those, 5
abbrev pub HeadRefuses : List ℕ → List ℕ → Type 0
HeadRefuses s old = Refuses (chunk_first s (shorter_than (length (head_shown s)) old ∷ [])) old (head_outcome s old)

-- where a chunk stands, ten bytes of its head are shown
abbrev pub TenShown : List ℕ → Type 0
TenShown s = NoneOf (chunk_first s []) → length (head_shown s) ≡ 10

-- `parse_chunk`: 3, those
abbrev pub ChunkParseRefuses : ℕ → List ℕ → Type 0
ChunkParseRefuses a s = Exactly (not_an_age a ∷ chunk_first s []) (chunk_parse a s).tells

-- `chunk_text`: 3, those, 4 of the record, 5
abbrev pub ChunkTextRefuses : ℕ → List ℕ → List ℕ → Type 0
ChunkTextRefuses a s old =
    Refuses (not_an_age a ∷ chunk_first s (is_held_back a (record_part s) ∷ shorter_than (length (text_of (aged a (record_part s)))) old ∷ [])) old (chunk_text a s old)

-- `chunk_marks`: 3, those, 5
abbrev pub ChunkMarksRefuse : ℕ → List ℕ → List ℕ → Type 0
ChunkMarksRefuse a s old = Refuses (not_an_age a ∷ chunk_first s (shorter_than 14 old ∷ [])) old (chunk_marks a s old)
