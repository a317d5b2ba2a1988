-- The chunk reader's age and offset: without an age it is of the default age, and past the bytes it stops at its offset with 1.
-- Assumes nothing.
use Prim.Native.Nat.{ℕ, ◌<◌}
use mathlib.Core.Path.{◌≡◌, refl}
use mathlib.Core.Bool.{true}
use mathlib.Core.List.{List}
use lib.ListN.{length}
use denote.Ref.{Bor}
use Rattle.answers.specs.declared.Refusal.{Refusal}
use Rattle.answers.specs.Tells.{refusal}
use Rattle.record.specs.Ages.{default_age, is_age}
use Rattle.runs.specs.Runs.{step_stays}
use Rattle.chunk.specs.Chunk.{if_head}
use Rattle.chunk_runs.specs.Chunks.{chunk_step_of}
use Rattle.chunk_runs.proofs.Chunks.{chunk_steps}
use Rattle.reader.proofs.Stops.{default_known, past_along}
use Rattle.chunk_reader.specs.declared.ChunkReader.{ChunkReader}
use Rattle.chunk_reader.specs.ChunkReader.{chunk_reader_of}

-- a reader that is made without an age reads at an age, the default
pub chunk_front_age : (b : Bor (List ℕ)) → ((chunk_reader_of b).age.0 ≡ default_age) × (true ≡ is_age (chunk_reader_of b).age.0)
chunk_front_age b = (refl, default_known)

-- with its offset past the bytes a reader stops at that offset with 1
pub chunk_past_stops : (d : ChunkReader) → true ≡ is_age d.age.0 → length d.bytes.now < d.offset
    → chunk_step_of d.age.0 d.bytes.now d.offset ≡ step_stays d.offset (refusal Refusal.TooFewBytes)
unfolding if_head
chunk_past_stops d known past = past_along (chunk_steps d.age.0 d.bytes.now) refl known d.offset past
