-- The fields before f are read or zero. Assumes nothing.
use mathlib.Core.Path.{◌≡◌}
use mathlib.Core.Bool.{true}
use Rattle.laws.specs.Below.{each_below}
use Rattle.writing.specs.Writing.{span, keeps}
use Rattle.writing.proofs.is_tidy.Given as goal

abbrev pub invariant-loop-f : goal.invariant-loop-f
invariant-loop-f l = (l.t ≡ span l.r) × (each_below l.f (keeps l.r) ≡ true)
