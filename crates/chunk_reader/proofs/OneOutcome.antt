-- Any two outcomes that a contract of the chunk reader allows for the same input are one. `read_chunk_at` has the contract of
-- `chunk_step_at`: `one_chunk_step` is its theorem. Assumes nothing.
use Prim.Native.Nat.{ℕ}
use mathlib.Core.Path.{◌≡◌}
use mathlib.Core.List.{List}
use denote.Ref.{Bor}
use Rattle.answers.proofs.OneOutcome.{one_answer}
use Rattle.record.specs.declared.ages.Age.{Age}
use Rattle.runs.specs.declared.Stepped.{Stepped}
use Rattle.runs.specs.Runs.{step_outcome}
use Rattle.chunk_runs.specs.Chunks.{chunk_step_of}
use Rattle.chunk_runs.proofs.OneOutcome.{one_chunk_step}
use Rattle.chunk_reader.specs.declared.ChunkReader.{ChunkReader}
use Rattle.chunk_reader.specs.ChunkReader.{chunk_reader_at, chunk_reader_of}

-- of `new_at` and of `moved`: the reader is fixed
pub one_chunk_reader : (b : Bor (List ℕ)) (p : ℕ) (a : Age) (r s : ChunkReader) → r ≡ chunk_reader_at b p a → s ≡ chunk_reader_at b p a → r ≡ s
one_chunk_reader b p a r s e f = one_answer (chunk_reader_at b p) a r s e f

-- of `new`
pub one_chunk_front : (b : Bor (List ℕ)) (r s : ChunkReader) → r ≡ chunk_reader_of b → s ≡ chunk_reader_of b → r ≡ s
one_chunk_front b r s e f = one_answer chunk_reader_of b r s e f

-- of `next`: the answer, the offset and the record are fixed
pub one_chunk_next : (d : ChunkReader) (r s : Stepped) → step_outcome r ≡ chunk_step_of d.age.0 d.bytes.now d.offset
    → step_outcome s ≡ chunk_step_of d.age.0 d.bytes.now d.offset → r ≡ s
one_chunk_next d r s e f = one_chunk_step d.age.0 d.bytes.now d.offset r s e f
