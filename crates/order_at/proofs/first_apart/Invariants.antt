-- The loop passes the words that agree. Assumes nothing.
use Prim.Native.Nat.{◌*◌}
use lib.ListN.{drop}
use Rattle.order_at.specs.Apart.{AgreeFrom}
use Rattle.order_at.proofs.first_apart.Given as goal

abbrev pub invariant-loop-f : goal.invariant-loop-f
invariant-loop-f l = AgreeFrom (drop l.p l.bytes) (drop l.q l.bytes) (4 * l.from) (4 * l.f)
