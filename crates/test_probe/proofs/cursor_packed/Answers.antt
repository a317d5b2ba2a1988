-- Each of the three cursors has its number. Assumes nothing.
use borrow.Author.Rules.{rules}
use Rattle.test_probe.proofs.cursor_packed.Goals as goal

pub returns-in-Record : goal.returns-in-Record
returns-in-Record c = rw c.in-Record.is c.pair.ensures
