-- The invariant: the rest stops, behind the fronts that have room, where all stops. Assumes nothing.
use mathlib.Core.Path.{sym, ◌∙◌}
use native.Mathlib.Omega.{arith}
use Rattle.subtag.proofs.Room.{measured_low, front_in, reach_more, reach_none, reach_end}
use Rattle.subtag.proofs.replaced_reach.Goals as goal

pub returns-then-o-room : goal.returns-then-o-room
returns-then-o-room c = let low = measured_low c.args.src.now c.loop-i.i (omega arith) c.if-src-i-lt128.true in
    sym (c.loop-i.invariant.2 ∙ reach_none c.args.src.now (omega arith) low _ _ c.loop-i.invariant.1 (omega arith))

pub loop-i-preserved-then-src-i-lt128 : goal.loop-i-preserved-then-src-i-lt128
loop-i-preserved-then-src-i-lt128 c = let low = measured_low c.args.src.now c.loop-i.i (omega arith) c.if-src-i-lt128.true in
    (omega arith, omega arith, c.loop-i.invariant.2 ∙ reach_more c.args.src.now (omega arith) low _ _ (omega arith))

pub returns-then-room-o : goal.returns-then-room-o
returns-then-room-o c = sym (c.loop-i.invariant.2 ∙ reach_none c.args.src.now (omega arith) c.measure-front.ensures _ _ c.loop-i.invariant.1 c.if-room-o.true)

pub overflow_add-i-else-src-i-lt128 : goal.overflow_add-i-else-src-i-lt128
overflow_add-i-else-src-i-lt128 c = omega (arith, front_in c.args.src.now (omega arith) c.measure-front.ensures)

pub loop-i-smaller : goal.loop-i-smaller
loop-i-smaller c = omega (arith, front_in c.args.src.now (omega arith) c.measure-front.ensures)

pub loop-i-preserved : goal.loop-i-preserved
loop-i-preserved c = let moved = front_in c.args.src.now (omega arith) c.measure-front.ensures in
    (moved.1, omega arith, c.loop-i.invariant.2 ∙ reach_more _ (omega arith) c.measure-front.ensures _ _ (omega arith))

pub returns : goal.returns
returns c = sym (c.loop-i.invariant.2 ∙ reach_end _ c.loop-i.i _ _ (omega arith))
