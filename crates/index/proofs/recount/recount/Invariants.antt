-- Each turn counts one record. Assumes nothing.
use Prim.Native.Nat.{◌-◌}
use lib.ListN.{length, drop}
use Rattle.index.specs.Index.{index_of}
use Rattle.index.proofs.Recounting.{Recounting}
use Rattle.index.proofs.recount.recount.Given as goal

abbrev pub invariant-loop-n : goal.invariant-loop-n
invariant-loop-n l = Recounting l.bytes (drop (length (index_of l.bytes)) l.initial.out) l.out l.here

abbrev pub decreases-loop-n : goal.decreases-loop-n
decreases-loop-n l = length l.bytes - l.here
