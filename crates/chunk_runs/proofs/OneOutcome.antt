-- Any two outcomes that a contract of this crate allows for the same input are one. Assumes nothing.
use Prim.Native.Nat.{ℕ}
use mathlib.Core.Path.{◌≡◌}
use mathlib.Core.List.{List}
use Rattle.answers.proofs.OneOutcome.{one_answer}
use Rattle.runs.specs.declared.Stop.{Stop}
use Rattle.std.specs.Prelude.{Result, Ok, Err}
use Rattle.runs.specs.declared.RunEnd.{RunEnd}
use Rattle.runs.specs.declared.Stepped.{Stepped}
use Rattle.runs.specs.Runs.{step_outcome}
use Rattle.runs.proofs.OneOutcome.{one_stepped}
use Rattle.chunk_runs.specs.Chunks.{chunk_at, chunk_run, chunk_step_of}

-- of `chunk_at` and `walk_chunks`: the answer is its definition's value at the input
pub one_chunk_at : (bytes : List ℕ) (p : ℕ) (r t : Result ℕ Stop) → r ≡ chunk_at bytes p → t ≡ chunk_at bytes p → r ≡ t
one_chunk_at bytes p r t e f = one_answer (chunk_at bytes) p r t e f

pub one_chunk_run : (bytes : List ℕ) (p : ℕ) (r t : RunEnd) → r ≡ chunk_run bytes p → t ≡ chunk_run bytes p → r ≡ t
one_chunk_run bytes p r t e f = one_answer (chunk_run bytes) p r t e f

-- of `chunk_step_at`: the answer, the offset and the record are fixed
pub one_chunk_step : (a : ℕ) (bytes : List ℕ) (p : ℕ) (r s : Stepped)
    → step_outcome r ≡ chunk_step_of a bytes p → step_outcome s ≡ chunk_step_of a bytes p → r ≡ s
one_chunk_step a bytes p r s e f = one_stepped r s e f
