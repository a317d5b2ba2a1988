-- The invariant: the rest stops, behind the fronts that have room, where all stops. Assumes nothing.
use Prim.Native.Nat.{◌-◌, ◌≤◌}
use mathlib.Core.Path.{◌≡◌}
use lib.ListN.{length, drop}
use Rattle.buffer.specs.Put.{reach}
use Rattle.subtag.specs.Subtag.{replaced}
use Rattle.subtag.proofs.replaced_reach.Given as goal

abbrev pub invariant-loop-i : goal.invariant-loop-i
invariant-loop-i l = (l.i ≤ length l.src) × (l.o ≤ l.room) × (reach l.room 0 (replaced l.src) ≡ reach l.room l.o (replaced (drop l.i l.src)))

abbrev pub decreases-loop-i : goal.decreases-loop-i
decreases-loop-i l = length l.src - l.i
