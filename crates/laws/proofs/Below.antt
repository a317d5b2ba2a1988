-- What holds at some, and at each, of the numbers below n. Assumes nothing.
use Prim.Native.Nat.{ℕ, zero, suc, ◌+◌, ◌<◌}
use mathlib.Core.Path.{◌≡◌, refl, sym, subst, ◌∙◌}
use mathlib.Core.Bool.{Bool, true, false, ◌&&◌, ◌||◌, true≢false}
use native.Mathlib.Nat.{not-suc-le-zero}
use native.Mathlib.Numerals.{add-one}
use native.Mathlib.Omega.{arith}
use native.Mathlib.Decide.{dec_lt}
use lib.Dec.{T}
use Rattle.laws.specs.Below.{some_below, each_below}
use Rattle.laws.proofs.Tests.{and_both, or_neither, not_yes, passed}

-- what holds below n and at n holds below n + 1
pub one_more : (P : ℕ → Type 0) (n : ℕ) → P n → ((i : ℕ) → i < n → P i) → (i : ℕ) → i < suc n → P i
one_more P n p below i h =
    elim (dec_lt i n) [
      | yes l ↦ below i l
      | no l ↦ let e : n ≡ i = omega arith in subst P e p
    ]

infixl 20 ◌then◌
-- what is shown of each of the numbers below n, from 0 on
pub data All (P : ℕ → Type 0) : ℕ → Type 0 where
  none : All P zero
  ◌then◌ : {n : ℕ} → All P n → P n → All P (suc n)

-- it holds at any of them
pub all_at : (P : ℕ → Type 0) (n : ℕ) → All P n → (f : ℕ) → f < n → P f
all_at P zero none f h = absurd (not-suc-le-zero h)
all_at P (suc n) (t then p) f h = one_more P n p (all_at P n t) f h

-- where a test holds at each, it holds at any
pub each_at : (n : ℕ) (p : ℕ → Bool) → each_below n p ≡ true → (f : ℕ) → f < n → p f ≡ true
each_at zero p e f h = absurd (not-suc-le-zero h)
each_at (suc n) p e f h = let b = and_both e in one_more (λ g. p g ≡ true) n b.0 (each_at n p b.1) f h

-- where a test doesn't hold at some, it holds at none
pub none_at : (n : ℕ) (p : ℕ → Bool) → some_below n p ≡ false → (f : ℕ) → f < n → p f ≡ false
none_at zero p e f h = absurd (not-suc-le-zero h)
none_at (suc n) p e f h = let b = or_neither e in one_more (λ g. p g ≡ false) n b.0 (none_at n p b.1) f h

-- a rule of a table by one computed test: what passes in each of n rows passes in any row
pub in_row : (n : ℕ) (test : ℕ → Bool) → T (each_below n test) → (f : ℕ) → f < n → test f ≡ true
in_row n test t = each_at n test (passed (each_below n test) t)

-- a number below n at which p gives v
pub record Spot (n : ℕ) (p : ℕ → Bool) (v : Bool) : Type 0 where
  pub spot : ℕ
  pub within : spot < n
  pub gives : p spot ≡ v

further : {n : ℕ} {p : ℕ → Bool} {v : Bool} → Spot n p v → Spot (suc n) p v
further w = record { spot = w.spot; within = omega (arith, w.within); gives = w.gives }

some_by : (n : ℕ) (p : ℕ → Bool) (b : Bool) → p n ≡ b → b || some_below n p ≡ true → (some_below n p ≡ true → Spot n p true) → Spot (suc n) p true
some_by n p true q e ih = record { spot = n; within = omega arith; gives = q }
some_by n p false q e ih = further (ih e)

-- where a test holds at some, there is one
pub some_spot : (n : ℕ) (p : ℕ → Bool) → some_below n p ≡ true → Spot n p true
some_spot zero p e = absurd (true≢false (sym e))
some_spot (suc n) p e = some_by n p (p n) refl e (some_spot n p)

each_by : (n : ℕ) (p : ℕ → Bool) (b : Bool) → p n ≡ b → b && each_below n p ≡ false → (each_below n p ≡ false → Spot n p false) → Spot (suc n) p false
each_by n p true q e ih = further (ih e)
each_by n p false q e ih = record { spot = n; within = omega arith; gives = q }

-- where a test doesn't hold at each, there is one at which it fails
pub each_spot : (n : ℕ) (p : ℕ → Bool) → each_below n p ≡ false → Spot n p false
each_spot zero p e = absurd (true≢false e)
each_spot (suc n) p e = each_by n p (p n) refl e (each_spot n p)

-- where a test fails at one, it doesn't hold at each
pub each_stop : (n : ℕ) (p : ℕ → Bool) (f : ℕ) → f < n → p f ≡ false → each_below n p ≡ false
each_stop n p f h e = not_yes (each_below n p) (λ q. true≢false (sym (each_at n p q f h) ∙ e))

-- one more, from none
pub each_none : (p : ℕ → Bool) → each_below 0 p ≡ true
each_none p = refl

pub each_more : (p : ℕ → Bool) (f : ℕ) → each_below f p ≡ true → p f ≡ true → each_below (f + 1) p ≡ true
each_more p f h e = rw (add-one f, e) h

-- where a test holds at any, it holds at each
pub each_here : (n : ℕ) (p : ℕ → Bool) → ((f : ℕ) → f < n → p f ≡ true) → each_below n p ≡ true
each_here zero p h = refl
each_here (suc n) p h = rw (h n (omega arith)) (each_here n p (λ f g. h f (omega arith)))
