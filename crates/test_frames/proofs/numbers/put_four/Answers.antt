-- `put_four` puts its bytes in a row.
use Rattle.buffer.proofs.Putting.{put_put}
use Rattle.test_frames.proofs.numbers.put_four.Goals as goal

pub returns : goal.returns
returns c = put_put c.put_byte-at.ensures (put_put c.put_byte-at-2.ensures (put_put c.put_byte-at-3.ensures c.put_byte.ensures))
