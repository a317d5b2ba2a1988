-- What is left to carry, from where the loop stands, gives what the whole carrying gives. Assumes nothing.
use Prim.Native.Nat.{◌+◌, ◌-◌}
use mathlib.Core.Path.{◌≡◌}
use Rattle.index.specs.Steps.{carry}
use Rattle.index.proofs.held.slide.Given as goal

abbrev pub invariant-loop-i : goal.invariant-loop-i
invariant-loop-i l = carry l.held l.i l.carried (l.to + 1 - l.i) ≡ carry l.initial.held l.from l.x (l.to + 1 - l.from)
