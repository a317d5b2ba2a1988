-- The walk's count. Assumes nothing.
use mathlib.Core.Path.{ap}
use Rattle.runs.specs.declared.RunEnd.{RunEnd}
use Rattle.test_probe.proofs.probe_records.Goals as goal

pub returns : goal.returns
returns c = ap (λ (e : RunEnd). e.records) c.walk-end.ensures
