-- Laws of `decimal`. Assumes nothing.
use Prim.Native.Nat.{ℕ, zero, suc, ◌+◌, ◌*◌, ◌/◌, ◌%◌, ◌≤◌, ◌<◌, ◌^◌, max}
use mathlib.Core.Path.{◌≡◌, refl, ap, ◌∙◌}
use mathlib.Core.List.{List, [], ◌∷◌, ◌++◌}
use mathlib.Core.Bool.{cond, Bool, true, false}
use native.Mathlib.Omega.{arith}
use lib.Dec.{ltb, lit<}
use native.Mathlib.Decide.{dec_lt}
use native.Mathlib.Nat.{div-lt_iff_lt-mul, one-le-pow, pow-suc}
use lib.ListN.{length, length-append}
use borrow.Author.Tests.{lt-ltb, le-ltb, ltb-false}
use Rattle.buffer.specs.Decimal.{digits, decimal}

-- a case that a test decides, where the second alternative may use what the test says
cond_else : (t : Bool) (x y z : List ℕ) → (t ≡ false → y ≡ z) → cond t x y ≡ cond t x z
cond_else true x y z h = refl
cond_else false x y z h = h refl

-- steps enough are as good as any
enough : (k m n : ℕ) → n ≤ k → n ≤ m → digits k n ≡ digits m n
unfolding digits
enough zero zero n hk hm = refl
enough zero (suc m) n hk hm = rw (lt-ltb n 10 (omega arith))
enough (suc k) zero n hk hm = rw (lt-ltb n 10 (omega arith))
enough (suc k) (suc m) n hk hm =
    cond_else (ltb n 10) _ _ _
    (λ e. let h : 10 ≤ n = ltb-false n 10 e in rw (enough k m (n / 10) (omega arith) (omega arith)))

-- one digit
pub decimal_one : (n : ℕ) → n < 10 → decimal n ≡ (48 + n) ∷ []
unfolding decimal digits
decimal_one zero h = refl
decimal_one (suc n) h = rw (lt-ltb (suc n) 10)

-- more
pub decimal_more : (n : ℕ) → 10 ≤ n → decimal n ≡ decimal (n / 10) ++ ((48 + n % 10) ∷ [])
unfolding decimal digits
decimal_more zero h = absurd (omega arith)
decimal_more (suc n) h = rw (le-ltb (suc n) 10 h, enough n (suc n / 10) (suc n / 10) (omega arith) (omega arith))

pub decimal_more_length : (n : ℕ) → 10 ≤ n → length (decimal n) ≡ length (decimal (n / 10)) + 1
decimal_more_length n h = ap length (decimal_more n h) ∙ length-append (decimal (n / 10)) ((48 + n % 10) ∷ [])

pub decimal_one_length : (n : ℕ) → n < 10 → length (decimal n) ≡ 1
decimal_one_length n h = ap length (decimal_one n h)

-- a number below ten to the k has k digits at most; the smallest, one
pub decimal_long : (k n : ℕ) → n < 10 ^ suc k → length (decimal n) ≤ suc k
decimal_long zero n h = omega (arith, decimal_one_length n h)
decimal_long (suc k) n h =
    elim (dec_lt n 10) [
      | yes l ↦ omega (arith, decimal_one_length n l)
      | no l ↦ omega (arith, decimal_more_length n (omega arith), decimal_long k (n / 10) ((div-lt_iff_lt-mul (lit< tt)).1 (rw pow-suc at h)))
    ]

-- every number has a digit
pub decimal_some : (n : ℕ) → 1 ≤ length (decimal n)
decimal_some n =
    elim (dec_lt n 10) [
      | yes l ↦ omega (arith, decimal_one_length n l)
      | no l ↦ omega (arith, decimal_more_length n (omega arith))
    ]

-- of the powers of ten, only the first is below two
powers_one : (k : ℕ) → 10 ^ k ≤ 1 → k ≡ 0
powers_one zero h = refl
powers_one (suc k) h = let p : 1 ≤ 10 ^ k = one-le-pow k 10 (lit< tt) in let g : 10 ^ k * 10 ≤ 1 = rw pow-suc at h in absurd (omega arith)

-- a number from ten to the k on has more than k digits
pub decimal_wide : (k n : ℕ) → 10 ^ k ≤ n → suc k ≤ length (decimal n)
decimal_wide zero n h = decimal_some n
decimal_wide (suc k) n h =
    let g : 10 ^ k * 10 ≤ n = rw pow-suc at h in
    let p : 1 ≤ 10 ^ k = one-le-pow k 10 (lit< tt) in
    omega (arith, decimal_more_length n (omega arith), decimal_wide k (n / 10) (omega arith))

-- so the digits go by the power of ten that is reached; 0 has as many as 1
pub decimal_power : (k n : ℕ) {m : ℕ} → m ≡ max n 1 → 10 ^ k ≤ m → m < 10 * 10 ^ k → k + 1 ≡ length (decimal n)
decimal_power k n e h g =
    elim (dec_lt n 1) [
      | yes l ↦ let z : k ≡ 0 = powers_one k (omega arith) in omega (arith, z, decimal_one_length n (omega arith))
      | no l ↦ omega (arith, decimal_wide k n (omega arith), decimal_long k n (rw pow-suc (omega arith)))
    ]
