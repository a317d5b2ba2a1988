-- 02, K3: a run of type chunks, end to end, where it stops and why, and a step of its reader. Assumes nothing.
use Rattle.std.specs.Prelude.{ℕ, List, drop, Result, Ok, Err}
use Rattle.record.specs.declared.ResTableConfig.{ResTableConfig}
use Rattle.reading.specs.Reading.{aged}
use Rattle.runs.specs.declared.Stop.{Stop}
use Rattle.runs.specs.declared.RunEnd.{RunEnd}
use Rattle.runs.specs.Fronts.{StepOutcome, front_in, offsets_in, stop_in, end_in, finds_in, stands_in}
use Rattle.runs.specs.Runs.{most, step_in}
use Rattle.chunk.specs.Chunk.{chunk_size, record_part, if_chunk}

-- what stands at the front of t: a whole chunk, behind which the next one is as far as its size says, or nothing, for the refusal
abbrev pub chunk_front : List ℕ → Result ℕ Stop
chunk_front t = if_chunk t (λ why. Err (Stop.Refused why)) (Ok (chunk_size t))

-- what stands at offset p of s: at the exact end nothing, else a chunk
unfoldable pub chunk_at : List ℕ → ℕ → Result ℕ Stop
chunk_at s p = front_in chunk_front s p

-- the record of the chunk at offset p of s: what its header holds from 20 on
abbrev pub record_at : List ℕ → ℕ → List ℕ
record_at s p = record_part (drop p s)

-- the offsets of the chunks of the run of s that begins at p
abbrev pub chunk_offsets : List ℕ → ℕ → List ℕ
chunk_offsets s p = offsets_in (most s) (chunk_at s) p

-- where the run stops
abbrev pub chunk_stop : List ℕ → ℕ → ℕ
chunk_stop s p = stop_in (most s) (chunk_at s) p

-- how many chunks it has, each with its record, where it stops and why
abbrev pub chunk_run : List ℕ → ℕ → RunEnd
chunk_run s p = end_in (most s) (chunk_at s) p

-- a step at p of s by a reader of age a: the record of the chunk that stands there, as the age reads it
unfoldable pub chunk_step_of : ℕ → List ℕ → ℕ → StepOutcome ResTableConfig
chunk_step_of a s p = step_in (chunk_at s) (λ q. aged a (record_at s q)) a p

-- the offsets at which a reader of age a finds the chunks of the run of s that begins at p
abbrev pub chunk_finds : ℕ → List ℕ → ℕ → List ℕ
chunk_finds a s p = finds_in (most s) (chunk_step_of a s) p

-- the offset at which it stops
abbrev pub chunk_stands : ℕ → List ℕ → ℕ → ℕ
chunk_stands a s p = stands_in (most s) (chunk_step_of a s) p

-- what its step there comes to
abbrev pub chunk_last : ℕ → List ℕ → ℕ → StepOutcome ResTableConfig
chunk_last a s p = chunk_step_of a s (chunk_stands a s p)
