-- `put` meets its contract. Assumes nothing.
use native.Mathlib.Numerals.{add-one}
use native.Mathlib.Omega.{arith}
use Rattle.buffer.proofs.Putting.{put_nil, put_turn}
use Rattle.buffer.proofs.put.Goals as goal

pub loop-b-init : goal.loop-b-init
loop-b-init c = put_nil

pub loop-b-preserved : goal.loop-b-preserved
loop-b-preserved c = rw add-one (put_turn _ c.loop-b.b-index (omega arith) c.loop-b.invariant c.put_byte-o.ensures)
