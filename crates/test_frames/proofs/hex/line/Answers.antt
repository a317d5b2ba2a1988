-- The digits of no byte are put at the start; those of one byte more behind each turn; those of all at the end, and a newline.
use Rattle.std.proofs.Common.{add-one, arith}
use Rattle.buffer.proofs.Putting.{put_put}
use Rattle.test_frames.proofs.Lines.{hex_all, hex_none, hex_turn}
use Rattle.test_frames.proofs.hex.line.Goals as goal

pub loop-byte-init : goal.loop-byte-init
loop-byte-init c = hex_none

pub loop-byte-preserved : goal.loop-byte-preserved
loop-byte-preserved c = rw add-one (hex_turn _ c.loop-byte.byte-index (omega arith) c.loop-byte.invariant c.digits-end.ensures)

pub returns : goal.returns
returns c = put_put (hex_all _ c.loop-byte.byte-index (omega arith) c.loop-byte.invariant) c.put_byte.ensures
