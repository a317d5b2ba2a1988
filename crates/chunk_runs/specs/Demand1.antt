-- Demand 1 of a step along chunks: when it is refused. Assumes nothing.
use Rattle.std.specs.Prelude.{ℕ, List, [], ◌∷◌, map, eqb, length, drop}
use Rattle.answers.specs.Demand1.{unless, Exactly}
use Rattle.reading.specs.Demand1.{not_an_age}
use Rattle.chunk.specs.Demand1.{chunk_first}
use Rattle.chunk_runs.specs.Chunks.{chunk_step_of}

-- `chunk_step_at` and the chunk reader's `next`: 3; at the exact end none; 1, 9, 10, then 1, 2 or 8 of the record
abbrev pub ChunkStepRefuses : ℕ → List ℕ → ℕ → Type 0
ChunkStepRefuses a s p =
    Exactly (not_an_age a ∷ map (unless (eqb p (length s))) (chunk_first (drop p s) [])) (chunk_step_of a s p).tells
