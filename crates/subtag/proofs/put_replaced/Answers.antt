-- `put_replaced` puts front after front. The invariant: what is still to be put completes the source. Assumes nothing.
use native.Mathlib.Omega.{arith}
use borrow.Author.Rules.{rules}
use Rattle.subtag.proofs.Laws.{completes_more, completes_all, moves}
use Rattle.subtag.proofs.Low.{completes_low}
use Rattle.subtag.proofs.put_replaced.Goals as goal

-- a byte below 80, and any front
pub loop-i-preserved-then-b-lt128 : goal.loop-i-preserved-then-b-lt128
loop-i-preserved-then-b-lt128 c = (omega arith, omega arith, search rules, completes_low _ _ (omega arith) c.if-b-lt128.true c.loop-i.invariant.3 c.put_byte-o.ensures)

-- the front that was put: its size and its count go along
pub overflow_add-i-else-b-lt128 : goal.overflow_add-i-else-b-lt128
overflow_add-i-else-b-lt128 c = omega (arith, moves c.args.src.now (omega arith) c.put_front-moved.ensures)

pub loop-i-smaller : goal.loop-i-smaller
loop-i-smaller c = omega (arith, moves c.args.src.now (omega arith) c.put_front-moved.ensures)

pub loop-i-preserved : goal.loop-i-preserved
loop-i-preserved c = let moved = moves c.args.src.now (omega arith) c.put_front-moved.ensures in
    (moved.1, omega (arith, moved), omega arith, completes_more _ _ (omega arith) c.loop-i.invariant.3 c.put_front-moved.ensures)

pub returns : goal.returns
returns c = completes_all _ {i = c.loop-i.i} (omega arith) c.loop-i.invariant.3
