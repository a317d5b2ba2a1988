-- The order of two numbers and of two lists. Assumes nothing.
use Prim.Native.Nat.{ℕ, ◌≤◌, ◌<◌}
use mathlib.Core.Path.{◌≡◌, refl, sym, ap, ◌∙◌}
use mathlib.Core.Bool.{Bool, true, false, cond, ◌&&◌}
use mathlib.Core.List.{List, [], ◌∷◌, ◌++◌}
use native.Mathlib.Omega.{arith}
use lib.Dec.{eqb, ltb}
use lib.ListN.{length}
use borrow.Author.Tests.{lt-ltb, le-ltb, ltb-true, ltb-false, eq-eqb, ne_eqb}
use Rattle.order.specs.Order.{number_order, and_then, lex, agree}
use Rattle.order.specs.declared.Ordering.{Ordering}

pub less_is : (x y : ℕ) → x < y → Ordering.Less ≡ number_order x y
less_is x y h = simp (lt-ltb x y h)

pub greater_is : (x y : ℕ) → y < x → Ordering.Greater ≡ number_order x y
greater_is x y h = let g : y ≤ x = omega arith in simp (le-ltb x y g, lt-ltb y x h)

pub equal_is : (x y : ℕ) → x ≡ y → Ordering.Equal ≡ number_order x y
equal_is x y e =
    let h : y ≤ x = omega arith in
    let g : x ≤ y = omega arith in
    simp (le-ltb x y h, le-ltb y x g)

-- of two numbers that differ, the one that isn't less is greater
pub apart_is : (x y : ℕ) → (x ≡ y → ⊥) → y ≤ x → Ordering.Greater ≡ number_order x y
apart_is x y d h = greater_is x y (omega (arith, d))

by_tests : (P : Ordering → Type 0) (x y : ℕ) (p q : Bool) → ltb x y ≡ p → ltb y x ≡ q
    → (x < y → P Ordering.Less) → (x ≡ y → P Ordering.Equal) → (y < x → P Ordering.Greater)
    → P (cond p Ordering.Less (cond q Ordering.Greater Ordering.Equal))
by_tests P x y true q s t l e g = l (ltb-true x y s)
by_tests P x y false true s t l e g = g (ltb-true y x t)
by_tests P x y false false s t l e g = e (omega (arith, ltb-false x y s, ltb-false y x t))

-- what holds in each of the three cases holds of the order of two numbers
pub by_order : (P : Ordering → Type 0) (x y : ℕ) → (x < y → P Ordering.Less) → (x ≡ y → P Ordering.Equal) → (y < x → P Ordering.Greater)
    → P (number_order x y)
by_order P x y l e g = by_tests P x y (ltb x y) (ltb y x) refl refl l e g

pub assoc : (o p q : Ordering) → and_then (and_then o p) q ≡ and_then o (and_then p q)
assoc Ordering.Less p q = refl
assoc Ordering.Equal p q = refl
assoc Ordering.Greater p q = refl

pub then_equal : (o : Ordering) → and_then o Ordering.Equal ≡ o
then_equal Ordering.Less = refl
then_equal Ordering.Equal = refl
then_equal Ordering.Greater = refl

-- lists of one length: the fronts first, and then the rest
pub joined : (a b x y : List ℕ) → length a ≡ length b → lex (a ++ x) (b ++ y) ≡ and_then (lex a b) (lex x y)
joined [] [] x y h = refl
joined [] (j ∷ b) x y h = absurd (omega arith)
joined (i ∷ a) [] x y h = absurd (omega arith)
joined (i ∷ a) (j ∷ b) x y h =
    let g : length a ≡ length b = omega arith in
    ap (and_then (number_order i j)) (joined a b x y g) ∙ sym (assoc (number_order i j) (lex a b) (lex x y))

-- whether an order is Equal
abbrev pub is_equal : Ordering → Bool
is_equal Ordering.Less = false
is_equal Ordering.Equal = true
is_equal Ordering.Greater = false

pub both_equal : (o p : Ordering) → is_equal (and_then o p) ≡ is_equal o && is_equal p
both_equal Ordering.Less p = refl
both_equal Ordering.Equal p = refl
both_equal Ordering.Greater p = refl

pub number_agree : (x y : ℕ) → eqb x y ≡ is_equal (number_order x y)
number_agree x y =
    by_order (λ o. eqb x y ≡ is_equal o) x y (λ h. ne_eqb x y (λ e. omega arith)) (λ e. eq-eqb x y e) (λ h. ne_eqb x y (λ e. omega arith))

-- two lists agree exactly when their order is Equal
pub agree_order : (a b : List ℕ) → agree a b ≡ is_equal (lex a b)
agree_order [] [] = refl
agree_order [] (y ∷ b) = refl
agree_order (x ∷ a) [] = refl
agree_order (x ∷ a) (y ∷ b) =
    rw (number_agree x y, agree_order a b) (sym (both_equal (number_order x y) (lex a b)))
