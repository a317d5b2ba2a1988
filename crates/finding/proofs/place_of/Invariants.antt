-- The loop passes the entries that don't have the key, so it stops at the first that has. Assumes nothing.
use Prim.Native.Nat.{◌<◌}
use Rattle.laws.proofs.Least.{NoneBelow}
use Rattle.finding.specs.Finding.{has_key}
use Rattle.finding.proofs.place_of.Given as goal

abbrev pub invariant-loop-place : goal.invariant-loop-place
invariant-loop-place l = (l.spot < 60) × NoneBelow (has_key l.entries l.key) l.place
