-- Answers as bits of a number. Assumes nothing.
use Prim.Native.Nat.{ℕ, zero, suc, ◌+◌, ◌*◌, ◌/◌, ◌%◌, ◌^◌}
use mathlib.Core.Path.{◌≡◌, refl}
use mathlib.Core.Bool.{Bool, true, false}
use mathlib.Core.List.{List, [], ◌∷◌}
use native.Mathlib.Omega.{arith}
use native.Mathlib.Nat.{pow-suc, pow-succ', mul_assoc, mul_comm, zero-div, div-div-eq-div-mul}
use lib.ListN.{take, drop, get_or}
use lib.Seq.{drop-drop}
use Rattle.record.specs.declared.ResTableConfig.{ResTableConfig}
use Rattle.record.specs.Table.{bit}
use Rattle.sheet.specs.Sheet.{bits, said_of, sheet_of}

-- a few bits in a row, each equal to its own
pub bits4 : {a b c d x y z w : ℕ} → a ≡ x → b ≡ y → c ≡ z → d ≡ w → a + 2 * (b + 2 * (c + 2 * d)) ≡ x + 2 * (y + 2 * (z + 2 * (w + 2 * 0)))
bits4 p q r s = omega arith

pub bits5 : {a b c d e x y z w v : ℕ} → a ≡ x → b ≡ y → c ≡ z → d ≡ w → e ≡ v
    → a + 2 * (b + 2 * (c + 2 * (d + 2 * e))) ≡ x + 2 * (y + 2 * (z + 2 * (w + 2 * (v + 2 * 0))))
bits5 p q r s t = omega arith

pub bits6 : {a b c d e f x y z w v u : ℕ} → a ≡ x → b ≡ y → c ≡ z → d ≡ w → e ≡ v → f ≡ u
    → a + 2 * (b + 2 * (c + 2 * (d + 2 * (e + 2 * f)))) ≡ x + 2 * (y + 2 * (z + 2 * (w + 2 * (v + 2 * (u + 2 * 0)))))
bits6 p q r s t k = omega arith

-- the first k answers, and the others k places higher
split : (k : ℕ) (l : List Bool) → bits l ≡ bits (take k l) + 2 ^ k * bits (drop k l)
split zero l = omega arith
split (suc k) [] = omega arith
split (suc k) (b ∷ l) =
    let e = split k l in
    let p = pow-suc 2 k in
    let q = mul_assoc (2 ^ k) 2 (bits (drop k l)) in
    let m = mul_comm (2 ^ k) 2 in
    let s = mul_assoc 2 (2 ^ k) (bits (drop k l)) in
    rw (pow-suc, mul_comm (2 ^ k) 2, mul_assoc) (omega arith)

-- five groups make the whole
pub whole : (l : List Bool) {a b c d e : ℕ} → a ≡ bits (take 4 l) → b ≡ bits (take 4 (drop 4 l)) → c ≡ bits (take 5 (drop 8 l)) → d ≡ bits (take 5 (drop 13 l)) → e ≡ bits (drop 18 l)
    → a + 16 * (b + 16 * (c + 32 * (d + 32 * e))) ≡ bits l
whole l p q r s t =
    let s0 = split 4 l in
    let s1 = rw drop-drop at (split 4 (drop 4 l)) in
    let s2 = rw drop-drop at (split 5 (drop 8 l)) in
    let s3 = rw drop-drop at (split 5 (drop 13 l)) in
    omega arith

-- bit k of the number is answer k, and 0 past the last
pub bit_at : (l : List Bool) (k : ℕ) → bits l / 2 ^ k % 2 ≡ bit (get_or l k false)
bit_at [] zero = refl
bit_at [] (suc k) = rw (zero-div (2 ^ suc k))
bit_at (false ∷ l) zero = omega arith
bit_at (true ∷ l) zero = omega arith
bit_at (b ∷ l) (suc k) =
    let h : (bit b + 2 * bits l) / 2 ≡ bits l = half b (bits l) in
    rw (pow-succ', ← div-div-eq-div-mul, h) (bit_at l k)
  where
    half : (b : Bool) (n : ℕ) → (bit b + 2 * n) / 2 ≡ n
    half false n = omega arith
    half true n = omega arith

-- so bit k of a sheet's said is 1 where place k of the record is said
pub said_at : (r : ResTableConfig) (k : ℕ) → (sheet_of r).said / 2 ^ k % 2 ≡ bit (get_or (said_of r) k false)
unfolding sheet_of
said_at r k = bit_at (said_of r) k
