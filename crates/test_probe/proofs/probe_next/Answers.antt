-- The line's outcome, and where the listing goes on. Assumes nothing.
use Rattle.test_probe.proofs.Answers.{line-goes}
use borrow.Author.Rules.{rules}
use Rattle.test_probe.proofs.probe_next.Goals as goal

pub returns-clause-value : goal.returns-clause-value
returns-clause-value c = (line-goes c.line-lined.result _ _ c.line-lined.ensures _ c.cursor_packed.ensures).0

pub returns-clause-out_after : goal.returns-clause-out_after
returns-clause-out_after c = (line-goes c.line-lined.result _ _ c.line-lined.ensures _ c.cursor_packed.ensures).1
