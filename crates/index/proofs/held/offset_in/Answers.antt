-- By whether counts are held. Assumes nothing.
use mathlib.Core.Path.{◌≡◌}
use Prim.Native.Nat.{ℕ, ◌/◌}
use mathlib.Core.Bool.{Bool, true, false}
use native.Mathlib.Omega.{arith}
use Rattle.index.specs.Steps.{unit_of}
use Rattle.index.proofs.held.offset_in.Goals as goal

alone : (w : ℕ) (b : Bool) → b ≡ false → w ≡ w / unit_of b
alone w b e = rw e (omega arith)

beside : (w : ℕ) (b : Bool) → b ≡ true → w / 4294967296 ≡ w / unit_of b
beside w b e = rw e

pub returns-then-counted : goal.returns-then-counted
returns-then-counted c = beside _ _ c.if-counted.true

pub returns-else-counted : goal.returns-else-counted
returns-else-counted c = alone _ _ c.if-counted.false
