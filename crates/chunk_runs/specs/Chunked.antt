-- 02, K3: a run of records, each put into a chunk, gives the same records, texts and marks. Assumes nothing.
use Rattle.std.specs.Prelude.{ℕ, ◌+◌, ◌/◌, ◌%◌, ◌≤◌, ◌<◌, ◌≡◌, List, [], ◌∷◌, ◌++◌, map, length, get_or, drop}
use Rattle.record.specs.Table.{Bytes}
use Rattle.reading.specs.Reading.{taken}
use Rattle.marking.specs.Marks.{marks_outcome}
use Rattle.text.specs.Text.{aged_text}
use Rattle.text.specs.Counted.{counted_aged}
use Rattle.runs.specs.declared.Stop.{Stop}
use Rattle.runs.specs.declared.RunEnd.{RunEnd}
use Rattle.runs.specs.Runs.{offsets_of, run_of, step_of}
use Rattle.chunk.specs.Chunk.{type_of, header_size, chunk_size, record_part, chunk_text, chunk_counted, chunk_marks}
use Rattle.chunk_runs.specs.Chunks.{chunk_offsets, chunk_run, chunk_step_of}

-- c is a chunk of r: one whole record and one whole chunk, with nothing behind either, and r stands in c at 20, with more behind it in the
-- header or not; what the chunk holds behind its header is free
pub record ChunkOf (r c : List ℕ) : Type 0 where
  pub whole : taken r ≡ length r
  pub type : type_of c ≡ 0x0201
  pub least : 20 ≤ header_size c
  pub header : header_size c ≤ chunk_size c
  pub size : chunk_size c ≡ length c
  pub more : List ℕ
  pub holds : record_part c ≡ r ++ more

-- the front of a chunk of n bytes that is all header: its type, then n twice, as header size and as chunk size
abbrev pub all_header : ℕ → List ℕ
all_header n = 1 ∷ 2 ∷ n % 256 ∷ n / 256 ∷ n % 256 ∷ n / 256 ∷ 0 ∷ 0 ∷ []

-- r in the least chunk that holds it, with the twelve bytes x for the rest of the head
abbrev pub wrapped : List ℕ → List ℕ → List ℕ
wrapped x r = all_header (20 + length r) ++ (x ++ r)

-- every record that a header has room for has such a chunk, whatever x is, and it is bytes
abbrev pub CanBeChunked : Type 0
CanBeChunked =
    (x r : List ℕ) → length x ≡ 12 → taken r ≡ length r → 20 + length r < 65536 → Bytes x → Bytes r
    → ChunkOf r (wrapped x r) × Bytes (wrapped x r)

-- a record alone, and in a chunk
pub record Chunked : Type 0 where
  pub alone : List ℕ
  pub chunk : List ℕ
  pub of : ChunkOf alone chunk

-- pieces end to end
abbrev pub joined : List (List ℕ) → List ℕ
joined [] = []
joined (x ∷ xs) = x ++ joined xs

-- where each of them begins, the first at p
abbrev pub places_from : ℕ → List (List ℕ) → List ℕ
places_from p [] = []
places_from p (x ∷ xs) = p ∷ places_from (p + length x) xs

-- the records alone, and their chunks
abbrev pub records : List Chunked → List (List ℕ)
records pairs = map (λ c. c.alone) pairs

abbrev pub chunks : List Chunked → List (List ℕ)
chunks pairs = map (λ c. c.chunk) pairs

-- at every age the calls on the record at offset q of s come to the same as those on the chunk at offset p of t; a number that is no age
-- both refuse
pub record SameAt (s : List ℕ) (q : ℕ) (t : List ℕ) (p : ℕ) : Type 0 where
  pub tells : (a : ℕ) → (step_of a s q).tells ≡ (chunk_step_of a t p).tells
  pub gives : (a : ℕ) → (step_of a s q).gives ≡ (chunk_step_of a t p).gives
  pub text : (a : ℕ) (old : List ℕ) → aged_text a (drop q s) old ≡ chunk_text a (drop p t) old
  pub counted : (a : ℕ) (old : List ℕ) → counted_aged a (drop q s) old ≡ chunk_counted a (drop p t) old
  pub marks : (a : ℕ) (old : List ℕ) → marks_outcome a (drop q s) old ≡ chunk_marks a (drop p t) old

-- a run of n pieces that stops at e, its exact end
abbrev pub ends : ℕ → ℕ → RunEnd
ends n e = record { records = n; offset = e; stop = Stop.Ended }

-- of a run s of records, and the run t of their chunks
pub record SameRuns (pairs : List Chunked) (s t : List ℕ) : Type 0 where
  -- the records, and the chunks, are found where they were put
  pub record_places : offsets_of s 0 ≡ places_from 0 (records pairs)
  pub chunk_places : chunk_offsets t 0 ≡ places_from 0 (chunks pairs)
  -- there are as many, and both runs stop at their exact end
  pub record_end : run_of s 0 ≡ ends (length pairs) (length s)
  pub chunk_end : chunk_run t 0 ≡ ends (length pairs) (length t)
  -- and the calls on each come to the same
  pub each : (i : ℕ) → i < length pairs → SameAt s (get_or (offsets_of s 0) i 0) t (get_or (chunk_offsets t 0) i 0)

-- chunks change the offsets of a run, and nothing else
abbrev pub ChunkedSame : Type 0
ChunkedSame = (pairs : List Chunked) → SameRuns pairs (joined (records pairs)) (joined (chunks pairs))
