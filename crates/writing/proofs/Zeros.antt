-- Bytes that are all zero. Assumes nothing.
use Prim.Native.Nat.{ℕ, zero, suc}
use mathlib.Core.Path.{◌≡◌, refl, sym, ◌∙◌}
use mathlib.Core.Bool.{true}
use mathlib.Core.List.{List}
use lib.ListN.{length, get_or, replicate, length-replicate}
use lib.Seq.{ext_get_or}
use Rattle.record.specs.Table.{all_zero}
use Rattle.marking.proofs.Zeros.{each_zero}

pub zeros_at : (n k : ℕ) → ◌≡◌ {A = ℕ} (get_or (replicate n 0) k 0) 0
zeros_at zero k = refl
zeros_at (suc n) zero = refl
zeros_at (suc n) (suc k) = zeros_at n k

-- all zero: as many zeros
pub zeros_of : (l : List ℕ) → all_zero l ≡ true → l ≡ replicate (length l) 0
zeros_of l e =
    ext_get_or 0 l (replicate (length l) 0) (sym (length-replicate {A = ℕ} (length l) 0))
    (λ k h. each_zero l e k ∙ sym (zeros_at (length l) k))

pub all_zeros : (n : ℕ) → all_zero (replicate n 0) ≡ true
all_zeros zero = refl
all_zeros (suc n) = all_zeros n
