-- `put_replaced` puts front after front. The invariant: what is still to be put completes the source. Assumes nothing.
use Prim.Native.Nat.{◌-◌, ◌≤◌}
use mathlib.Core.Path.{◌≡◌}
use lib.ListN.{length}
use Rattle.subtag.proofs.Laws.{Completes}
use Rattle.subtag.proofs.put_replaced.Given as goal

abbrev pub invariant-loop-i : goal.invariant-loop-i
invariant-loop-i l = (l.i ≤ length l.src) × (l.replacements ≤ l.i) × (length l.out ≡ length l.initial.out) × Completes l.initial.out l.at l.src l.out l.o l.i l.replacements

abbrev pub decreases-loop-i : goal.decreases-loop-i
decreases-loop-i l = length l.src - l.i
