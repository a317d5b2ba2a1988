-- Each turn goes on behind what stands; the walk ends where the run stops. Assumes nothing.
use Prim.Native.Nat.{◌-◌}
use mathlib.Core.Path.{sym, ◌∙◌}
use native.Mathlib.Omega.{arith}
use borrow.Author.Rules.{rules}
use lib.ListN.{length}
use Rattle.runs.specs.Runs.{most}
use Rattle.runs.proofs.Fronts.{Walked, begins, arrives}
use Rattle.runs.proofs.Along.{within, turn}
use Rattle.chunk_runs.specs.Chunks.{chunk_at}
use Rattle.chunk_runs.proofs.Chunks.{chunk_run}
use Rattle.chunk_runs.proofs.walk_chunks.Goals as goal

pub loop-n-init : goal.loop-n-init
loop-n-init c = begins _ _ _

-- what stands is within the bytes
pub overflow_add-here : goal.overflow_add-here
overflow_add-here c = omega (arith, within (chunk_run _) _ _ (sym c.chunk_at.ensures ∙ c.in-Ok.is))

pub overflow_add-records : goal.overflow_add-records
overflow_add-records c = omega (arith, c.loop-n.invariant.room, within (chunk_run _) _ _ (sym c.chunk_at.ensures ∙ c.in-Ok.is))

pub loop-n-smaller : goal.loop-n-smaller
loop-n-smaller c = omega (arith, within (chunk_run _) _ _ (sym c.chunk_at.ensures ∙ c.in-Ok.is))

pub loop-n-preserved : goal.loop-n-preserved
loop-n-preserved c = turn (chunk_run _) c.loop-n.invariant (sym c.chunk_at.ensures ∙ c.in-Ok.is)

pub returns-in-Err : goal.returns-in-Err
returns-in-Err c = arrives _ _ _ _ _ _ c.loop-n.invariant (sym c.chunk_at.ensures ∙ c.in-Err.is)
