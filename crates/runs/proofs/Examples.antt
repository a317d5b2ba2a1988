-- Runs by computation: 01's example run, a size below 16, a cut record, an offset past the bytes. Assumes nothing.
use Prim.Native.Nat.{ℕ}
use mathlib.Core.Path.{◌≡◌, refl}
use mathlib.Core.List.{List, [], ◌∷◌, ◌++◌}
use lib.ListN.{replicate}
use Rattle.answers.specs.declared.Refusal.{Refusal}
use Rattle.answers.specs.Tells.{success, refusal}
use Rattle.record.specs.Ages.{is_age}
use Rattle.reading.specs.Cut.{lacking}
use Rattle.reading.specs.Reading.{if_age, if_whole}
use Rattle.runs.specs.declared.Stop.{Stop}
use Rattle.runs.specs.Fronts.{offsets_in, stop_in}
use Rattle.runs.specs.Runs.{front_at, offsets_of, run_of, step_of, step_stays}

-- 01's run: a record of 16 bytes, one of size 0, and three bytes
abbrev pub run : List ℕ
run = 0x10 ∷ 0 ∷ 0 ∷ 0 ∷ 0x36 ∷ 0x01 ∷ 0 ∷ 0 ∷ 0x65 ∷ 0x6E ∷ 0x55 ∷ 0x53 ∷ 0x01 ∷ 0 ∷ 0xF0 ∷ 0 ∷ (replicate 16 0 ++ (1 ∷ 2 ∷ 3 ∷ []))

pub examples :
    (offsets_of run 0 ≡ 0 ∷ 16 ∷ [])
    × (run_of run 0 ≡ record { records = 2; offset = 32; stop = Stop.Refused Refusal.TooFewBytes })
    × (run_of run 16 ≡ record { records = 1; offset = 32; stop = Stop.Refused Refusal.TooFewBytes })
    × (run_of (replicate 48 0) 0 ≡ record { records = 3; offset = 48; stop = Stop.Ended })
    × (run_of (replicate 16 0 ++ (17 ∷ replicate 15 0)) 0 ≡ record { records = 1; offset = 16; stop = Stop.Refused Refusal.UndecodedCut })
    × (run_of (replicate 16 0 ++ (64 ∷ replicate 39 0)) 0 ≡ record { records = 1; offset = 16; stop = Stop.Refused (Refusal.FieldCut 10) })
    × (run_of [] 0 ≡ record { records = 0; offset = 0; stop = Stop.Ended })
    × (run_of run 99 ≡ record { records = 0; offset = 99; stop = Stop.Refused Refusal.TooFewBytes })
    × (step_of 42 run 0 ≡ step_stays 0 (refusal Refusal.NotAnAge))
    × (step_of 16 run 35 ≡ step_stays 35 (success 0))
    × (step_of 16 (20 ∷ replicate 15 0) 0 ≡ step_stays 0 (refusal (Refusal.FieldCut 4)))
    × (step_of 16 run 36 ≡ step_stays 36 (refusal Refusal.TooFewBytes))
unfolding offsets_in stop_in front_at step_of if_whole lacking if_age is_age
examples = (refl, refl, refl, refl, refl, refl, refl, refl, refl, refl, refl, refl)
