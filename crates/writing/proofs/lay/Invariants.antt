-- The fields before f are laid. Assumes nothing.
use mathlib.Core.Path.{◌≡◌}
use mathlib.Core.List.{◌++◌}
use Prim.Native.Nat.{◌≤◌}
use lib.ListN.{length, drop}
use Rattle.writing.specs.Writing.{span, laid}
use Rattle.writing.proofs.lay.Given as goal

abbrev pub invariant-loop-f : goal.invariant-loop-f
invariant-loop-f l = (l.t ≡ span l.r) × (l.t ≤ length l.initial.out) × (l.out ≡ laid l.r l.f ++ drop l.t l.initial.out)
