-- When a step along chunks is refused, and with which number. Assumes nothing.
use Prim.Native.Nat.{ℕ}
use mathlib.Core.List.{List, []}
use Rattle.answers.proofs.Exactly.{none_left}
use Rattle.runs.proofs.Exactly.{along_exactly}
use Rattle.chunk.specs.Chunk.{chunk_size}
use Rattle.chunk.specs.Demand1.{chunk_first}
use Rattle.chunk.proofs.Head.{chunk_row}
use Rattle.chunk_runs.specs.Demand1.{ChunkStepRefuses}
use Rattle.chunk_runs.proofs.Chunks.{chunk_run, chunk_steps}

-- `chunk_step_at`: 3; at the exact end none; 1, 9, 10, then 1, 2 or 8 of the record
pub chunk_step_exactly : (a : ℕ) (s : List ℕ) (p : ℕ) → ChunkStepRefuses a s p
chunk_step_exactly a s p = along_exactly (chunk_run s) (λ t. chunk_first t []) chunk_size (λ t. chunk_row t none_left) (chunk_steps a s) p
