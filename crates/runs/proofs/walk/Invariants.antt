-- Each turn goes on behind what stands; the walk ends where the run stops. Assumes nothing.
use Prim.Native.Nat.{◌-◌}
use mathlib.Core.Path.{sym, ◌∙◌}
use native.Mathlib.Omega.{arith}
use borrow.Author.Rules.{rules}
use lib.ListN.{length}
use Rattle.runs.specs.Runs.{front_at, most}
use Rattle.runs.proofs.Fronts.{Walked, begins, arrives}
use Rattle.runs.proofs.Along.{within, turn}
use Rattle.runs.proofs.Records.{record_run}
use Rattle.runs.proofs.walk.Given as goal

abbrev pub invariant-loop-n : goal.invariant-loop-n
invariant-loop-n l = Walked (front_at l.bytes) (most l.bytes) l.offset l.here l.records

abbrev pub decreases-loop-n : goal.decreases-loop-n
decreases-loop-n l = length l.bytes - l.here
