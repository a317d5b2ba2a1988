-- Runs of chunks by computation: two chunks and a tail, an offset past the bytes, a chunk whose record is refused. Assumes nothing.
use Prim.Native.Nat.{ℕ}
use mathlib.Core.Path.{◌≡◌, refl}
use mathlib.Core.List.{List, [], ◌∷◌, ◌++◌}
use lib.ListN.{replicate}
use Rattle.answers.specs.declared.Refusal.{Refusal}
use Rattle.answers.specs.Tells.{success, refusal}
use Rattle.record.specs.Ages.{is_age}
use Rattle.reading.specs.Cut.{lacking}
use Rattle.reading.specs.Reading.{if_age, if_whole}
use Rattle.runs.specs.declared.Stop.{Stop}
use Rattle.runs.specs.Fronts.{offsets_in, stop_in}
use Rattle.runs.specs.Runs.{step_stays}
use Rattle.chunk.specs.Chunk.{if_head}
use Rattle.chunk.proofs.Examples.{head_of, small, later}
use Rattle.chunk_runs.specs.Chunks.{chunk_at, chunk_offsets, chunk_run, chunk_step_of}

-- a chunk with two bytes behind its header, then one whose header is longer than its record
abbrev pub two : List ℕ
two = head_of 36 38 ++ small ++ (7 ∷ 7 ∷ []) ++ head_of 40 40 ++ small ++ replicate 4 255

pub examples :
    (chunk_offsets two 0 ≡ 0 ∷ 38 ∷ [])
    × (chunk_run two 0 ≡ record { records = 2; offset = 78; stop = Stop.Ended })
    × (chunk_run (two ++ (1 ∷ 2 ∷ [])) 0 ≡ record { records = 2; offset = 78; stop = Stop.Refused Refusal.TooFewBytes })
    × (chunk_run (two ++ replicate 20 0) 38 ≡ record { records = 1; offset = 78; stop = Stop.Refused Refusal.WrongType })
    × (chunk_run (two ++ head_of 36 41 ++ small) 0 ≡ record { records = 2; offset = 78; stop = Stop.Refused Refusal.WrongSizes })
    × (chunk_run (two ++ head_of 39 40 ++ later) 0 ≡ record { records = 2; offset = 78; stop = Stop.Refused (Refusal.FieldCut 4) })
    × (chunk_run two 99 ≡ record { records = 0; offset = 99; stop = Stop.Refused Refusal.TooFewBytes })
    × (chunk_step_of 42 two 0 ≡ step_stays 0 (refusal Refusal.NotAnAge))
    × (chunk_step_of 16 two 78 ≡ step_stays 78 (success 0))
    × (chunk_step_of 64 two 1 ≡ step_stays 1 (refusal Refusal.WrongType))
unfolding offsets_in stop_in chunk_at chunk_step_of if_head if_whole lacking if_age is_age
examples = (refl, refl, refl, refl, refl, refl, refl, refl, refl, refl)
