-- The entries of the first held numbers are put. Assumes nothing.
use native.Mathlib.Omega.{arith}
use lib.ListN.{take}
use Rattle.index.proofs.Writing.{put_none, put_more, put_to}
use Rattle.index.proofs.put_entries.Goals as goal

pub loop-w-init : goal.loop-w-init
loop-w-init c = put_none _ c.args.counted

pub loop-w-preserved : goal.loop-w-preserved
loop-w-preserved c =
    put_more _ c.args.counted (take c.args.m c.args.held.now) c.loop-w.w-index _ _ (omega arith) c.offset_in-offset.ensures c.count_in-count.ensures c.loop-w.invariant
    (rw c.record_at-x.ensures at c.put_entry-o.ensures)

pub returns : goal.returns
returns c = put_to _ c.args.counted (take c.args.m c.args.held.now) c.loop-w.w-index (omega arith) c.loop-w.invariant
