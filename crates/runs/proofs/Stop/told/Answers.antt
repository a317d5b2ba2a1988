-- The stop tells what its case does. Assumes nothing.
use borrow.Author.Rules.{rules}
use Rattle.runs.proofs.Stop.told.Goals as goal

pub returns-in-Ended : goal.returns-in-Ended
returns-in-Ended c = rw c.in-Ended.is c.success.ensures

pub returns-in-Refused : goal.returns-in-Refused
returns-in-Refused c = rw c.in-Refused.is c.told.ensures
