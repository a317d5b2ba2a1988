-- The rank lies between the two ends, until one that is Equal is met or the ends meet. Assumes nothing.
use Prim.Native.Nat.{◌-◌, ◌≤◌}
use Rattle.order_at.specs.OrderAt.{order_at}
use Rattle.rising.proofs.Bisect.{Between}
use Rattle.index.specs.Steps.{places_in}
use lib.ListN.{take}
use Rattle.index.proofs.held.seek.Given as goal

abbrev pub invariant-loop-lo : goal.invariant-loop-lo
invariant-loop-lo l = (l.hi ≤ l.m) × Between (λ q. order_at l.bytes q l.offset) (places_in l.counted (take l.m l.held)) l.lo l.hi

abbrev pub decreases-loop-lo : goal.decreases-loop-lo
decreases-loop-lo l = l.hi - l.lo
