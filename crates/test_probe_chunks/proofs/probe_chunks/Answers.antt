-- The walk's count. Assumes nothing.
use mathlib.Core.Path.{ap}
use Rattle.runs.specs.declared.RunEnd.{RunEnd}
use Rattle.test_probe_chunks.proofs.probe_chunks.Goals as goal

pub returns : goal.returns
returns c = ap (λ (e : RunEnd). e.records) c.walk_chunks-end.ensures
