-- Where the step goes on. Assumes nothing.
use mathlib.Core.Path.{ap}
use Rattle.record.specs.declared.ResTableConfig.{ResTableConfig}
use Rattle.runs.specs.Fronts.{StepOutcome}
use Rattle.test_probe_chunks.proofs.probe_chunk_next.Goals as goal

pub returns : goal.returns
returns c = ap (λ (e : StepOutcome ResTableConfig). e.next) c.chunk_step_at-stepped.ensures
