-- What the probes answer, from what the calls under them answer. Assumes nothing.
use Prim.Native.Nat.{ℕ}
use mathlib.Core.Path.{◌≡◌, ap, ◌∙◌}
use mathlib.Core.List.{List}
use Rattle.answers.specs.Tells.{packed_of}
use Rattle.record.specs.declared.ResTableConfig.{ResTableConfig}
use Rattle.runs.specs.declared.Stepped.{Stepped}
use Rattle.runs.specs.Fronts.{StepOutcome, step_tells}
use Rattle.runs.specs.Runs.{step_outcome}
use Rattle.writing.specs.Writing.{write_of}

-- of a step that comes to o: what it tells, packed, and the record that it gives, written
pub shows : (s : Stepped) (o : StepOutcome ResTableConfig) (r : ℕ) (old new : List ℕ) → step_outcome s ≡ o
    → (r ≡ packed_of (step_tells s.answer)) × (new ≡ (write_of s.«record» old).leaves)
    → (r ≡ packed_of o.tells) × (new ≡ (write_of o.gives old).leaves)
shows s o r old new e h = (
  h.0 ∙ ap (λ (x : StepOutcome ResTableConfig). packed_of x.tells) e,
  h.1 ∙ ap (λ (x : StepOutcome ResTableConfig). (write_of x.gives old).leaves) e,
)
