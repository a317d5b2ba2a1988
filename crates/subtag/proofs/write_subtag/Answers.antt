-- The subtag is put where it fits, else the call is refused. Assumes nothing.
use Rattle.buffer.proofs.Putting.{reach_within, reach_past}
use Rattle.subtag.proofs.Copying.{copy_short, copy_written}
use Rattle.subtag.proofs.write_subtag.Goals as goal

pub returns-then-out-subtag_reach : goal.returns-then-out-subtag_reach
returns-then-out-subtag_reach c = copy_short _ _ _ (reach_past _ _ (rw c.subtag_reach.ensures at c.if-out-subtag_reach.true))

pub returns : goal.returns
returns c = rw c.into.ensures (copy_written (reach_within _ _ (rw c.subtag_reach.ensures at c.if-out-subtag_reach.false)) c.put_subtag.ensures)
