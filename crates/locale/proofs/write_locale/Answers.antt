-- The words are put where they fit, else the call is refused. Assumes nothing.
use Rattle.subtag.proofs.Copying.{copy_short, copy_written}
use Rattle.locale.proofs.write_locale.Goals as goal

pub returns-then-out-said_length : goal.returns-then-out-said_length
returns-then-out-said_length c = copy_short _ _ _ (rw c.said_length.ensures at c.if-out-said_length.true)

pub returns : goal.returns
returns c = rw c.into.ensures (copy_written (rw c.said_length.ensures at c.if-out-said_length.false) c.put_said.ensures)
