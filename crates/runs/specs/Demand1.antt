-- Demand 1 of a step: when it is refused. Assumes nothing.
use Rattle.std.specs.Prelude.{ℕ, List, [], ◌∷◌, eqb, length, drop}
use Rattle.answers.specs.Demand1.{unless, Exactly}
use Rattle.reading.specs.Demand1.{fewer_than16, fewer_than_size, not_an_age}
use Rattle.runs.specs.Runs.{step_of}

-- `step_at` and the run reader's `next`: 3; at the exact end none; 1, 2 or 8
abbrev pub StepRefuses : ℕ → List ℕ → ℕ → Type 0
StepRefuses a s p =
    Exactly
    (not_an_age a ∷ unless (eqb p (length s)) (fewer_than16 (drop p s)) ∷ unless (eqb p (length s)) (fewer_than_size (drop p s)) ∷ [])
    (step_of a s p).tells
