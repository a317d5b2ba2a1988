-- The order is total: two records stand to each other in one way, read from either side, and three in a row stand in order.
-- Equal means that all fourteen fields agree. Assumes nothing.
use Prim.Native.Nat.{ℕ, ◌<◌}
use mathlib.Core.Path.{◌≡◌, refl, sym, ap, ◌∙◌}
use mathlib.Core.Bool.{true}
use mathlib.Core.List.{List, [], ◌∷◌}
use mathlib.Core.Logic.{◌⊎◌, inl, inr}
use native.Mathlib.Omega.{arith}
use Rattle.laws.proofs.Tests.{clash}
use Rattle.order.specs.Order.{number_order, and_then, lex, key, order_of, equal_of}
use Rattle.order.specs.Total.{flip, Total, Transitive, Antisymmetric, EqualWhenYes}
use Rattle.record.specs.declared.ResTableConfig.{ResTableConfig}
use Rattle.order.specs.declared.Ordering.{Ordering}
use Rattle.order.proofs.Lex.{less_is, greater_is, equal_is, by_order, is_equal, agree_order}

number_flip : (x y : ℕ) → number_order y x ≡ flip (number_order x y)
number_flip x y =
    by_order (λ o. number_order y x ≡ flip o) x y
    (λ h. sym (greater_is y x h))
    (λ e. sym (equal_is y x (sym e)))
    (λ h. sym (less_is y x h))

then_flip : (o p : Ordering) → and_then (flip o) (flip p) ≡ flip (and_then o p)
then_flip Ordering.Less p = refl
then_flip Ordering.Equal p = refl
then_flip Ordering.Greater p = refl

lex_flip : (a b : List ℕ) → lex b a ≡ flip (lex a b)
lex_flip [] [] = refl
lex_flip [] (y ∷ b) = refl
lex_flip (x ∷ a) [] = refl
lex_flip (x ∷ a) (y ∷ b) = rw (number_flip x y, lex_flip a b) (then_flip (number_order x y) (lex a b))

-- the second stands to the first as the first to the second, read from the other side
pub order_flip : Total
unfolding order_of
order_flip a b = lex_flip (key a) (key b)

-- Less one way is Greater the other way
pub less_greater : (a b : ResTableConfig) → order_of a b ≡ Ordering.Less → order_of b a ≡ Ordering.Greater
less_greater a b e = order_flip a b ∙ ap flip e

-- and back
pub greater_less : (a b : ResTableConfig) → order_of b a ≡ Ordering.Greater → order_of a b ≡ Ordering.Less
greater_less a b e = order_flip b a ∙ ap flip e

neither : (o : Ordering) → (o ≡ Ordering.Greater → ⊥) → (flip o ≡ Ordering.Greater → ⊥) → o ≡ Ordering.Equal
neither Ordering.Less d e = absurd (e refl)
neither Ordering.Equal d e = refl
neither Ordering.Greater d e = absurd (d refl)

-- two records of which neither is greater are Equal
pub neither_greater : Antisymmetric
neither_greater a b d e = neither (order_of a b) d (λ f. e (order_flip a b ∙ f))

less_by : (x y : ℕ) (o : Ordering) → and_then (number_order x y) o ≡ Ordering.Less → (x < y) ⊎ ((x ≡ y) × (o ≡ Ordering.Less))
less_by x y o =
    by_order (λ p. and_then p o ≡ Ordering.Less → (x < y) ⊎ ((x ≡ y) × (o ≡ Ordering.Less))) x y
    (λ h e. inl h)
    (λ h e. inr (h, e))
    (λ h e. let z : ◌≡◌ {A = ℕ} 0 1 = cc in clash z)

less_then : (x z : ℕ) (o : Ordering) → x < z → and_then (number_order x z) o ≡ Ordering.Less
less_then x z o h = rw (sym (less_is x z h))

same_then : (x z : ℕ) (o : Ordering) → x ≡ z → o ≡ Ordering.Less → and_then (number_order x z) o ≡ Ordering.Less
same_then x z o h e = rw (sym (equal_is x z h)) e

both_less : (x y z : ℕ) (o p q : Ordering) → (o ≡ Ordering.Less → p ≡ Ordering.Less → q ≡ Ordering.Less)
    → (x < y) ⊎ ((x ≡ y) × (o ≡ Ordering.Less)) → (y < z) ⊎ ((y ≡ z) × (p ≡ Ordering.Less)) → and_then (number_order x z) q ≡ Ordering.Less
both_less x y z o p q more (inl h) (inl g) = less_then x z q (omega arith)
both_less x y z o p q more (inl h) (inr g) = let e : y ≡ z = g.0 in less_then x z q (omega arith)
both_less x y z o p q more (inr h) (inl g) = let e : x ≡ y = h.0 in less_then x z q (omega arith)
both_less x y z o p q more (inr h) (inr g) = same_then x z q (h.0 ∙ g.0) (more h.1 g.1)

lex_less : (a b c : List ℕ) → lex a b ≡ Ordering.Less → lex b c ≡ Ordering.Less → lex a c ≡ Ordering.Less
lex_less a [] [] e f = let z : ◌≡◌ {A = ℕ} 0 1 = cc in clash z
lex_less a (y ∷ b) [] e f = let z : ◌≡◌ {A = ℕ} 0 1 = cc in clash z
lex_less [] [] (z ∷ c) e f = refl
lex_less (x ∷ a) [] (z ∷ c) e f = let k : ◌≡◌ {A = ℕ} 0 1 = cc in clash k
lex_less [] (y ∷ b) (z ∷ c) e f = refl
lex_less (x ∷ a) (y ∷ b) (z ∷ c) e f =
    both_less x y z (lex a b) (lex b c) (lex a c) (lex_less a b c) (less_by x y (lex a b) e) (less_by y z (lex b c) f)

-- Less than what is Less is Less
less_less : (a b c : ResTableConfig) → order_of a b ≡ Ordering.Less → order_of b c ≡ Ordering.Less → order_of a c ≡ Ordering.Less
unfolding order_of
less_less a b c e f = lex_less (key a) (key b) (key c) e f

-- a list stands to itself as Equal
pub lex_self : (a : List ℕ) → lex a a ≡ Ordering.Equal
lex_self [] = refl
lex_self (x ∷ a) = rw (sym (equal_is x x refl)) (lex_self a)

equal_by : (x y : ℕ) (o : Ordering) → and_then (number_order x y) o ≡ Ordering.Equal → (x ≡ y) × (o ≡ Ordering.Equal)
equal_by x y o =
    by_order (λ p. and_then p o ≡ Ordering.Equal → (x ≡ y) × (o ≡ Ordering.Equal)) x y
    (λ h e. let z : ◌≡◌ {A = ℕ} 0 1 = cc in clash z)
    (λ h e. (h, e))
    (λ h e. let z : ◌≡◌ {A = ℕ} 0 1 = cc in clash z)

-- lists whose order is Equal are one
pub lex_equal : (a b : List ℕ) → lex a b ≡ Ordering.Equal → a ≡ b
lex_equal [] [] e = refl
lex_equal [] (y ∷ b) e = let z : ◌≡◌ {A = ℕ} 0 1 = cc in clash z
lex_equal (x ∷ a) [] e = let z : ◌≡◌ {A = ℕ} 0 1 = cc in clash z
lex_equal (x ∷ a) (y ∷ b) e =
    let s = equal_by x y (lex a b) e in
    let h : x ≡ y = s.0 in
    let t : a ≡ b = lex_equal a b s.1 in
    cc

-- Equal records have one key
pub equal_keys : (a b : ResTableConfig) → order_of a b ≡ Ordering.Equal → key a ≡ key b
unfolding order_of
equal_keys a b e = lex_equal (key a) (key b) e

-- and records with one key are Equal
pub keys_equal : (a b : ResTableConfig) → key a ≡ key b → order_of a b ≡ Ordering.Equal
unfolding order_of
keys_equal a b e = ap (lex (key a)) (sym e) ∙ lex_self (key a)

-- Equal records stand in the same way to any third
equal_alike : (a b c : ResTableConfig) → order_of a b ≡ Ordering.Equal → order_of a c ≡ order_of b c
unfolding order_of
equal_alike a b c e = ap (λ (k : List ℕ). lex k (key c)) (equal_keys a b e)

-- three in a row stand in order
pub transitive : Transitive
transitive = record { less = less_less; equal = equal_alike }

-- `eq` says whether `cmp` says Equal
pub eq_cmp : (a b : ResTableConfig) → equal_of a b ≡ is_equal (order_of a b)
unfolding order_of equal_of
eq_cmp a b = agree_order (key a) (key b)

is_equal_lem : (o : Ordering) → is_equal o ≡ true → o ≡ Ordering.Equal
is_equal_lem Ordering.Less e = let z : ◌≡◌ {A = ℕ} 0 1 = cc in clash z
is_equal_lem Ordering.Equal e = refl
is_equal_lem Ordering.Greater e = let z : ◌≡◌ {A = ℕ} 0 1 = cc in clash z

-- so it says yes exactly when `cmp` says Equal
pub eq_exactly : (a b : ResTableConfig) → EqualWhenYes a b
eq_exactly a b = ((λ e. is_equal_lem (order_of a b) (sym (eq_cmp a b) ∙ e)), (λ e. eq_cmp a b ∙ ap is_equal e))

-- it says yes to one key
pub eq_keys : (a b : ResTableConfig) → equal_of a b ≡ true → key a ≡ key b
eq_keys a b e = equal_keys a b (is_equal_lem (order_of a b) (sym (eq_cmp a b) ∙ e))

-- and to no other
pub keys_eq : (a b : ResTableConfig) → key a ≡ key b → equal_of a b ≡ true
keys_eq a b e = eq_cmp a b ∙ ap is_equal (keys_equal a b e)
