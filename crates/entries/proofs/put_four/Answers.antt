-- The four bytes are put in a row. Assumes nothing.
use Rattle.buffer.proofs.Putting.{put_put}
use Rattle.entries.proofs.put_four.Goals as goal

pub returns : goal.returns
returns c = put_put c.put_byte-a.ensures (put_put c.put_byte-b.ensures (put_put c.put_byte-c.ensures c.put_byte.ensures))
