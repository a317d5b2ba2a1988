-- Where the reader's step goes on. Assumes nothing.
use mathlib.Core.Path.{ap}
use Rattle.record.specs.declared.ResTableConfig.{ResTableConfig}
use Rattle.runs.specs.Fronts.{StepOutcome}
use Rattle.test_probe_chunks.proofs.probe_chunk_read_next.Goals as goal

pub returns : goal.returns
returns c = ap (λ (e : StepOutcome ResTableConfig). e.next) c.read_chunk_at-stepped.ensures
