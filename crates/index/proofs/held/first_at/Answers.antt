-- By whether counts are held. Assumes nothing.
use Prim.Native.Nat.{ℕ, ◌+◌, ◌*◌}
use mathlib.Core.Path.{◌≡◌}
use mathlib.Core.Bool.{Bool, true, false}
use native.Mathlib.Omega.{arith}
use Rattle.index.specs.Steps.{unit_of, count_step}
use Rattle.index.proofs.held.first_at.Goals as goal

alone : (p : ℕ) (b : Bool) → b ≡ false → p ≡ p * unit_of b + count_step b
alone p b e = rw e (omega arith)

beside : (p : ℕ) (b : Bool) → b ≡ true → p * 4294967296 + 1 ≡ p * unit_of b + count_step b
beside p b e = rw e

pub overflow_mul-result : goal.overflow_mul-result
overflow_mul-result c = let h = c.requires c.if-counted.true in omega arith

pub overflow_add-result : goal.overflow_add-result
overflow_add-result c = let h = c.requires c.if-counted.true in omega arith

pub returns-then-counted : goal.returns-then-counted
returns-then-counted c = beside _ _ c.if-counted.true

pub returns-else-counted : goal.returns-else-counted
returns-else-counted c = alone _ _ c.if-counted.false
