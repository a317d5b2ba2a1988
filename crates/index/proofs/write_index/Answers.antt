-- Nothing is written before it is known that all fits. Assumes nothing.
use mathlib.Core.Path.{refl}
use native.Mathlib.Omega.{arith}
use Rattle.index.proofs.Writing.{index_more, index_wrote, counted_index, uncounted, recounted_index}
use borrow.Author.Tests.{ltb-true, lt-ltb, le-ltb}
use Rattle.index.proofs.write_index.Goals as goal

pub gather-m-requires : goal.gather-m-requires
gather-m-requires c = (refl, (omega (arith, c.lesser-room.ensures), (λ e. ltb-true _ _ e)))

pub returns-then-room-m : goal.returns-then-room-m
returns-then-room-m c = index_more _ _ _ _ _ c.lesser-room.ensures _ c.gather-m.ensures c.if-room-m.true

pub put_entries-requires : goal.put_entries-requires
put_entries-requires c = omega (arith, c.if-room-m.false, c.lesser-room.ensures)

pub recount-requires : goal.recount-requires
recount-requires c = uncounted _ _ _ _ _ c.lesser-room.ensures _ c.gather-m.ensures (omega (arith, c.if-room-m.false)) (le-ltb _ _ c.if-not-counted.true) c.put_entries.ensures

pub returns-then-not-counted : goal.returns-then-not-counted
returns-then-not-counted c = let g = c.gather-m.ensures in
    let is = c.lesser-room.ensures in
    index_wrote _ _ _ _ _ is _ g (omega (arith, c.if-room-m.false)) (recounted_index _ _ _ _ _ is _ g (omega (arith, c.if-room-m.false)) (le-ltb _ _ c.if-not-counted.true) c.put_entries.ensures c.recount.ensures)

pub returns-else-not-counted : goal.returns-else-not-counted
returns-else-not-counted c = let g = c.gather-m.ensures in
    let is = c.lesser-room.ensures in
    index_wrote _ _ _ _ _ is _ g (omega (arith, c.if-room-m.false)) (counted_index _ _ _ _ _ is _ g (omega (arith, c.if-room-m.false)) (lt-ltb _ _ c.if-not-counted.false) c.put_entries.ensures)
