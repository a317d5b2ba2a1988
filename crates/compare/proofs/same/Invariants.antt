-- `same` compares the lengths, and then byte after byte. Assumes nothing.
use Prim.Native.Nat.{◌≤◌}
use mathlib.Core.Path.{◌≡◌}
use lib.ListN.{length, drop}
use Rattle.compare.specs.Compare.{same}
use Rattle.compare.proofs.same.Given as goal

abbrev pub invariant-loop-i : goal.invariant-loop-i
invariant-loop-i l = (l.i ≤ length l.s) × (length l.s ≡ length l.w) × (same l.s l.w ≡ same (drop l.i l.s) (drop l.i l.w))
