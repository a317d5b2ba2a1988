-- The loop passes the bytes that are the key's: what is left agrees as the whole does. Assumes nothing.
use mathlib.Core.Path.{◌≡◌}
use lib.ListN.{drop}
use Rattle.record.specs.Table.{part}
use Rattle.order.specs.Order.{agree}
use Rattle.finding.proofs.apart_at.Given as goal

abbrev pub invariant-loop-i : goal.invariant-loop-i
invariant-loop-i l = agree (part l.entries l.at 60) l.key ≡ agree (drop l.i (part l.entries l.at 60)) (drop l.i l.key)
