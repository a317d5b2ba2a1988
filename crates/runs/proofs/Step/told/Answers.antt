-- The answer tells what its case does. Assumes nothing.
use borrow.Author.Rules.{rules}
use Rattle.runs.proofs.Step.told.Goals as goal

pub returns-in-Found : goal.returns-in-Found
returns-in-Found c = rw c.in-Found.is c.success.ensures

pub returns-in-Stopped : goal.returns-in-Stopped
returns-in-Stopped c = rw c.in-Stopped.is c.told.ensures
