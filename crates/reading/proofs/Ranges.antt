-- The numbers of what is read of some bytes are in the ranges of their types. Assumes nothing.
use Prim.Native.Nat.{ℕ, zero, suc, ◌^◌, ◌<◌}
use mathlib.Core.Path.{◌≡◌, refl}
use mathlib.Core.Bool.{Bool}
use mathlib.Core.List.{List}
use native.Mathlib.Omega.{arith}
use native.Mathlib.Decide.{dec_lt}
use lib.ListN.{length, replicate, drop_of_length-le}
use lib.Seq.{drop-cons}
use Rattle.laws.proofs.Choice.{chosen}
use Rattle.record.specs.Table.{Bytes, part, le, start_of, width_of}
use Rattle.reading.specs.Reading.{field_by}

-- the number of n bytes
pub part_below : (n a : ℕ) (s : List ℕ) → Bytes s → le (part s a n) < 256 ^ n
part_below zero a s h = omega arith
part_below (suc n) a s h =
    elim (dec_lt a (length s)) [
      | yes l ↦ rw (drop-cons s a 0 l) (omega (arith, h a, part_below n (suc a) s h))
      | no l ↦ rw (drop_of_length-le s {i = a} (omega arith)) (omega (arith, part_below n (suc a) s h))
    ]

zeros_none : (n : ℕ) → le (replicate n 0) ≡ 0
zeros_none zero = refl
zeros_none (suc n) = omega (arith, zeros_none n)

-- that of a field
pub field_below : (p : ℕ → Bool) (s : List ℕ) (f : ℕ) → Bytes s → le (field_by p s f) < 256 ^ width_of f
unfolding field_by
field_below p s f h =
    chosen (λ (w : List ℕ). le w < 256 ^ width_of f) (p f)
    (part_below (width_of f) (start_of f) s h) (omega (arith, zeros_none (width_of f), part_below (width_of f) (start_of f) s h))
