-- 02, K3: what is said of a run of chunks as a whole. Assumes nothing.
use Rattle.std.specs.Prelude.{ℕ, ◌-◌, ◌*◌, ◌≤◌, ◌<◌, ◌≡◌, List, length, get_or, drop}
use Rattle.answers.specs.declared.Refusal.{Refusal}
use Rattle.answers.specs.Tells.{success, refusal}
use Rattle.chunk.specs.Chunk.{chunk_size, chunk_take}
use Rattle.chunk_runs.specs.Chunks.{chunk_offsets, chunk_stop}

-- no whole chunk stands at the front of t
pub record NoChunk (t : List ℕ) : Type 0 where
  pub why : Refusal
  pub refused : refusal why ≡ chunk_take t

-- of the run of s that begins at p: a whole chunk stands at each of its offsets, none where it stops, and it has at most one chunk
-- for each 16 of the bytes there
pub record WholeChunks (s : List ℕ) (p : ℕ) : Type 0 where
  pub each : (i : ℕ) → i < length (chunk_offsets s p)
      → chunk_take (drop (get_or (chunk_offsets s p) i 0) s) ≡ success (chunk_size (drop (get_or (chunk_offsets s p) i 0) s))
  pub stop : NoChunk (drop (chunk_stop s p) s)
  pub few : length (chunk_offsets s p) * 16 ≤ length s - p
