-- Numbers that are bytes. Assumes nothing.
use Prim.Native.Nat.{ℕ, zero, suc, ◌<◌}
use mathlib.Core.List.{List, [], ◌∷◌}
use native.Mathlib.Omega.{arith}
use native.Mathlib.Decide.{dec_lt}
use lib.ListN.{length, get_or, get_or-eq_default}
use Rattle.laws.proofs.Lists.{Each}
use Rattle.record.specs.Table.{Bytes}

-- each element is a byte
pub each_byte : (s : List ℕ) → Each (λ b. b < 256) s → Bytes s
each_byte [] h i = omega arith
each_byte (b ∷ s) h zero = h.0
each_byte (b ∷ s) h (suc i) = each_byte s h.1 i

-- the element at each offset is a byte; past the end a list gives 0
pub by_offset : (s : List ℕ) → ((i : ℕ) → i < length s → get_or s i 0 < 256) → Bytes s
by_offset s f i =
    elim (dec_lt i (length s)) [
      | yes h ↦ f i h
      | no h ↦ rw (get_or-eq_default s 0 {n = i} (omega arith)) (omega arith)
    ]
