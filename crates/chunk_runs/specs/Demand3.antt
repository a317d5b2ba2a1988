-- Demand 3 for runs of chunks, clause by clause as for records; the comments are its words. Assumes nothing.
use Rattle.std.specs.Prelude.{ℕ, ◌-◌, ◌≤◌, ◌<◌, ◌≡◌, true, false, List, length, get_or, drop}
use Rattle.answers.specs.declared.Refusal.{Refusal}
use Rattle.buffer.specs.Written.{wrote, refused}
use Rattle.record.specs.Ages.{is_age}
use Rattle.record.specs.Table.{end_of}
use Rattle.reading.specs.Reading.{parse_of, taken}
use Rattle.reading.specs.Demand3.{Alike}
use Rattle.places.specs.Places.{text_of}
use Rattle.text.specs.Text.{plain_text}
use Rattle.runs.specs.Fronts.{stop_at, stop_tells, found}
use Rattle.runs.specs.Demand3.{Shows, ZeroFrom}
use Rattle.chunk.specs.Chunk.{chunk_text, chunk_marks}
use Rattle.chunk_runs.specs.Chunks.{chunk_at, record_at, chunk_step_of, chunk_finds, chunk_stands, chunk_last}

-- what the demand says of the chunk at offset q of s, and of its record, with buffers x and y of equal length for the texts
pub record OfChunk (s : List ℕ) (q older newer : ℕ) (x y : List ℕ) : Type 0 where
  -- Fields both know have the values demand 2's parsing gives,
  pub older_values : Alike older (chunk_step_of older s q).gives (parse_of (record_at s q)).gives
  pub newer_values : Alike older (chunk_step_of newer s q).gives (parse_of (record_at s q)).gives
  -- and equal marks.
  pub marks : (m n : List ℕ) → 14 ≤ length m → 14 ≤ length n → (f : ℕ) → 1 ≤ f → f ≤ 14 → end_of f ≤ older
      → get_or (chunk_marks older (drop q s) m).leaves (f - 1) 0 ≡ get_or (chunk_marks newer (drop q s) n).leaves (f - 1) 0
  -- The older shows a record's text exactly when every byte of it at or past its age is zero and the text fits;
  pub shows_when : Shows (chunk_text older (drop q s) x) → ZeroFrom older (record_at s q) × (length (text_of (parse_of (record_at s q)).gives) ≤ length x)
  pub when_shows : ZeroFrom older (record_at s q) → length (text_of (parse_of (record_at s q)).gives) ≤ length x → Shows (chunk_text older (drop q s) x)
  -- then it is demand 2's text,
  pub plain_text_lem : Shows (chunk_text older (drop q s) x)
      → (chunk_text older (drop q s) x ≡ plain_text (record_at s q) x) × (plain_text (record_at s q) x ≡ wrote (text_of (parse_of (record_at s q)).gives) x)
  -- and the newer shows it too.
  pub newer_too : Shows (chunk_text older (drop q s) x) → chunk_text newer (drop q s) y ≡ wrote (text_of (parse_of (record_at s q)).gives) y
  -- If any such byte isn't zero, it refuses by name and shows no text.
  pub refuses : (k : ℕ) → older ≤ k → k < taken (record_at s q) → (get_or (record_at s q) k 0 ≡ 0 → ⊥) → chunk_text older (drop q s) x ≡ refused Refusal.HeldBack x

-- what it says of the run of s that begins at p, in which the next chunk is as far as the chunk's size says
pub record OfChunks (s : List ℕ) (p older newer : ℕ) (x y : List ℕ) : Type 0 where
  -- Both readers find the same chunks at the same places,
  pub offsets : chunk_finds older s p ≡ chunk_finds newer s p
  -- and stop at the same byte
  pub stop : chunk_stands older s p ≡ chunk_stands newer s p
  -- (each has stopped there: its next step finds no chunk, and tells why the run stops)
  pub stopped : ((chunk_last older s p).tells ≡ stop_tells (stop_at (chunk_at s) (chunk_stands older s p))) × (found (chunk_last older s p) ≡ false)
  -- for the same reason.
  pub reason : (chunk_last older s p).tells ≡ (chunk_last newer s p).tells
  -- Of each chunk that they find:
  pub each : (i : ℕ) → i < length (chunk_finds older s p) → OfChunk s (get_or (chunk_finds older s p) i 0) older newer x y

-- Take a run of chunks, two of the twelve reader ages, and text buffers of equal length.
abbrev pub ChunkDemand3 : Type 0
ChunkDemand3 =
    (s : List ℕ) (p older newer : ℕ) (x y : List ℕ) → older ≤ newer → is_age older ≡ true → is_age newer ≡ true → length x ≡ length y
    → OfChunks s p older newer x y
