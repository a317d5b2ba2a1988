-- `digits` puts its digits in a row.
use Rattle.buffer.proofs.Putting.{put_put}
use Rattle.test_frames.specs.Hex.{hex_of}
use Rattle.test_frames.proofs.hex.digits.Goals as goal

pub returns : goal.returns
unfolding hex_of
returns c = rw (← c.digit.ensures, ← c.digit-2.ensures) (put_put c.put_byte-next.ensures c.put_byte.ensures)
