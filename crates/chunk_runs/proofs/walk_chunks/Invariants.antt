-- Each turn goes on behind what stands; the walk ends where the run stops. Assumes nothing.
use Prim.Native.Nat.{◌-◌}
use mathlib.Core.Path.{sym, ◌∙◌}
use native.Mathlib.Omega.{arith}
use borrow.Author.Rules.{rules}
use lib.ListN.{length}
use Rattle.runs.specs.Runs.{most}
use Rattle.runs.proofs.Fronts.{Walked, begins, arrives}
use Rattle.runs.proofs.Along.{within, turn}
use Rattle.chunk_runs.specs.Chunks.{chunk_at}
use Rattle.chunk_runs.proofs.Chunks.{chunk_run}
use Rattle.chunk_runs.proofs.walk_chunks.Given as goal

abbrev pub invariant-loop-n : goal.invariant-loop-n
invariant-loop-n l = Walked (chunk_at l.bytes) (most l.bytes) l.offset l.here l.records

abbrev pub decreases-loop-n : goal.decreases-loop-n
decreases-loop-n l = length l.bytes - l.here
