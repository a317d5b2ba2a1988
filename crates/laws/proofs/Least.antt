-- The least of the numbers below n at which a test holds. Assumes nothing.
use Prim.Native.Nat.{ℕ, zero, suc, ◌+◌, ◌<◌}
use mathlib.Core.Path.{◌≡◌, refl, sym, ap, subst}
use mathlib.Core.Bool.{Bool, true, false}
use native.Mathlib.Nat.{not-suc-le-zero}
use native.Mathlib.Omega.{arith}
use Rattle.laws.specs.Below.{least_below}
use Rattle.laws.proofs.Below.{one_more}

-- p holds at none of the numbers below f
abbrev pub NoneBelow : (ℕ → Bool) → ℕ → Type 0
NoneBelow p f = (g : ℕ) → g < f → p g ≡ false

-- one more that is passed
pub one_passed : (p : ℕ → Bool) (f : ℕ) → NoneBelow p f → p f ≡ false → NoneBelow p (f + 1)
one_passed p f h e g l = one_more (λ i. p i ≡ false) f e h g (omega arith)

-- f is the least at which p holds
pub record Least (p : ℕ → Bool) (f : ℕ) : Type 0 where
  pub holds : p f ≡ true
  pub first : NoneBelow p f

-- the same numbers, one lower
abbrev lower : (ℕ → Bool) → ℕ → Bool
lower p f = p (suc f)

-- where it is found
pub least_is : (n : ℕ) (p : ℕ → Bool) (f : ℕ) → f < n → Least p f → least_below n p ≡ f
least_is zero p f h l = absurd (not-suc-le-zero h)
least_is (suc n) p zero h l = rw l.holds
least_is (suc n) p (suc f) h l =
    rw (l.first 0 (omega arith))
    (ap suc (least_is n (lower p) f (omega arith) (record { holds = l.holds; first = λ g k. l.first (suc g) (omega arith) })))

-- where it isn't
pub least_none : (n : ℕ) (p : ℕ → Bool) → NoneBelow p n → least_below n p ≡ n
least_none zero p h = refl
least_none (suc n) p h = rw (h 0 (omega arith)) (ap suc (least_none n (lower p) (λ g k. h (suc g) (omega arith))))

-- what looking at each of the numbers below n comes to
pub data Found (p : ℕ → Bool) (n : ℕ) : Type 0 where
  found : (f : ℕ) → f < n → Least p f → Found p n
  unfound : NoneBelow p n → Found p n

later : (n : ℕ) (p : ℕ → Bool) → p zero ≡ false → NoneBelow (lower p) n → NoneBelow p (suc n)
later n p e h zero l = e
later n p e h (suc g) l = h g (omega arith)

look_by : (n : ℕ) (p : ℕ → Bool) (b : Bool) → p zero ≡ b → Found (lower p) n → Found p (suc n)
look_by n p true e s = Found.found zero (omega arith) (record { holds = e; first = λ g h. absurd (not-suc-le-zero h) })
look_by n p false e (Found.found f h l) = Found.found (suc f) (omega arith) (record { holds = l.holds; first = later f p e l.first })
look_by n p false e (Found.unfound h) = Found.unfound (later n p e h)

pub look : (n : ℕ) (p : ℕ → Bool) → Found p n
look zero p = Found.unfound (λ g h. absurd (not-suc-le-zero h))
look (suc n) p = look_by n p (p zero) refl (look n (lower p))

-- below n the least is one at which p holds
pub least_says : (n : ℕ) (p : ℕ → Bool) → least_below n p < n → Least p (least_below n p)
least_says n p h =
    elim (look n p) [
      | found f l least ↦ subst (Least p) (sym (least_is n p f l least)) least
      | unfound none ↦ absurd (let e = least_none n p none in omega arith)
    ]

-- and where it isn't below n, p holds at none
pub none_says : (n : ℕ) (p : ℕ → Bool) → (least_below n p < n → ⊥) → NoneBelow p n
none_says n p h =
    elim (look n p) [
      | found f l least ↦ absurd (let e = least_is n p f l least in h (omega arith))
      | unfound none ↦ none
    ]
