-- What is put ends within the buffer.
use Rattle.std.proofs.Common.{◌≤◌, length, arith, sym}
use lib.Seq.{length-take-le}
use Rattle.buffer.proofs.Putting.{put_most}
use Rattle.desk.proofs.say.shown.Goals as goal

pub slice_bounds-out-end : goal.slice_bounds-out-end
slice_bounds-out-end g c = (put_most c.put_escaped-n.ensures (omega arith)).1

pub slice_bounds-plainly-end : goal.slice_bounds-plainly-end
slice_bounds-plainly-end g c = let h : c.put_escaped-n.result ≤ length c.put_escaped-n.new.out = (put_most c.put_escaped-n.ensures (omega arith)).1 in sym (length-take-le _ _ h)
