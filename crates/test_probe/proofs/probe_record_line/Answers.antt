-- The record line's outcome, what it tells packed. Assumes nothing.
use Rattle.test_probe.proofs.Answers.{comes}
use Rattle.test_probe.proofs.probe_record_line.Goals as goal

pub returns : goal.returns
returns c = comes c.record_line.result _ _ _ _ c.record_line.ensures c.from.ensures c.packed.ensures
