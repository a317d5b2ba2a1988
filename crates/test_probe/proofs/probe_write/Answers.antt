-- The writer's outcome, what it tells packed. Assumes nothing.
use Rattle.test_probe.proofs.Answers.{comes}
use Rattle.test_probe.proofs.probe_write.Goals as goal

pub returns : goal.returns
returns c = comes c.write_sized.result _ _ _ _ c.write_sized.ensures c.from.ensures c.packed.ensures
