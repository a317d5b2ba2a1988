-- The subtag is put where it fits, else the call is refused. Assumes nothing.
use Rattle.subtag.proofs.Copying.{copy_short, copy_written}
use Rattle.language.proofs.write_unpacked.Goals as goal

pub returns-then-out-unpacked_length : goal.returns-then-out-unpacked_length
returns-then-out-unpacked_length c = copy_short _ _ _ (rw c.unpacked_length.ensures at c.if-out-unpacked_length.true)

pub returns : goal.returns
returns c = rw c.from-counted.ensures (copy_written (rw c.unpacked_length.ensures at c.if-out-unpacked_length.false) c.put_unpacked.ensures)
