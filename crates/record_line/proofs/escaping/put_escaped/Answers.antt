-- The first bytes of the text are put. Assumes nothing.
use native.Mathlib.Numerals.{add-one}
use native.Mathlib.Omega.{arith}
use Rattle.buffer.proofs.Putting.{put_nil}
use Rattle.record_line.specs.RecordLine.{escaped_all}
use Rattle.record_line.proofs.Escapes.{escaped_turn}
use Rattle.record_line.proofs.escaping.put_escaped.Goals as goal

pub loop-b-init : goal.loop-b-init
unfolding escaped_all
loop-b-init c = put_nil

pub loop-b-preserved : goal.loop-b-preserved
loop-b-preserved c = rw add-one (escaped_turn _ c.loop-b.b-index (omega arith) c.loop-b.invariant c.put_shown_byte-o.ensures)
