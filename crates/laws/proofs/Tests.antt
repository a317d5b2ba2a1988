-- What the outcome of a test says of the tests that it is made of. Assumes nothing.
use Prim.Native.Nat.{ℕ}
use mathlib.Core.Path.{◌≡◌, refl, sym}
use mathlib.Core.Bool.{Bool, true, false, ◌&&◌, ◌||◌, true≢false}
use native.Mathlib.Omega.{arith}
use lib.Dec.{T}

both_true : (a b : Bool) → a && b ≡ true → (a ≡ true) × (b ≡ true)
both_true true b e = (refl, e)
both_true false b e = absurd (true≢false (sym e))

-- where both of two tests hold, each does
pub and_both : {a b : Bool} → a && b ≡ true → (a ≡ true) × (b ≡ true)
and_both {a} {b} e = both_true a b e

both_false : (a b : Bool) → a || b ≡ false → (a ≡ false) × (b ≡ false)
both_false true b e = absurd (true≢false e)
both_false false b e = (refl, e)

-- where not one of two tests holds, neither does
pub or_neither : {a b : Bool} → a || b ≡ false → (a ≡ false) × (b ≡ false)
or_neither {a} {b} e = both_false a b e

-- where one of two tests holds and the first doesn't, the second does
pub or_second : (a b : Bool) → a || b ≡ true → a ≡ false → b ≡ true
or_second true b e f = absurd (true≢false f)
or_second false b e f = e

-- where the second of two tests holds, one does
pub or_right : (a : Bool) {b : Bool} → b ≡ true → a || b ≡ true
or_right true e = refl
or_right false e = e

-- a test that doesn't hold fails
pub not_yes : (a : Bool) → (a ≡ true → ⊥) → a ≡ false
not_yes true n = absurd (n refl)
not_yes false n = refl

-- a computed test that passes holds
pub passed : (a : Bool) → T a → a ≡ true
passed true t = refl
passed false t = absurd t

-- 0 isn't 1, so from that anything follows
pub clash : {A : Type 0} → ◌≡◌ {A = ℕ} 0 1 → A
clash z = absurd (none z)
  where
    none : ◌≡◌ {A = ℕ} 0 1 → ⊥
    none e = omega arith
