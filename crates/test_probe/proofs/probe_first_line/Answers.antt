-- The first line's outcome, what it tells packed. Assumes nothing.
use Rattle.test_probe.proofs.Answers.{line-comes}
use borrow.Author.Rules.{rules}
use Rattle.test_probe.proofs.probe_first_line.Goals as goal

pub returns : goal.returns
returns c = line-comes c.line-lined.result _ _ (rw c.first.ensures at c.line-lined.ensures) _ _ c.from.ensures c.packed.ensures
