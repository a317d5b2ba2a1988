-- `put_two` puts its bytes in a row.
use Rattle.buffer.proofs.Putting.{put_put}
use Rattle.test_frames.proofs.numbers.put_two.Goals as goal

pub returns : goal.returns
returns c = put_put c.put_byte-at.ensures c.put_byte.ensures
