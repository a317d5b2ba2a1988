-- A field that agrees is passed over, and one that differs decides: how the steps of `cmp` and `eq` answer. Assumes nothing.
use Prim.Native.Nat.{ℕ}
use mathlib.Core.Path.{◌≡◌, refl, sym, ap, ◌∙◌}
use mathlib.Core.Bool.{Bool, false, ◌&&◌}
use mathlib.Core.List.{List, ◌++◌}
use lib.Dec.{eqb}
use borrow.Author.Tests.{eq-eqb, ne_eqb}
use Rattle.order.specs.Order.{number_order, and_then, lex, agree}
use Rattle.order.specs.Packed.{Packed}
use Rattle.order.specs.declared.Ordering.{Ordering}
use Rattle.order.proofs.Lex.{equal_is, by_order, joined, is_equal, both_equal, number_agree, agree_order}
use Rattle.order.proofs.Packing.{packed_order}

-- in the order, a number that agrees is passed over
pub skip : {x y : ℕ} {r o : Ordering} → x ≡ y → r ≡ o → r ≡ and_then (number_order x y) o
skip {x = x} {y = y} e f = rw (sym (equal_is x y e)) f

-- and one that differs decides
pub stop : {x y : ℕ} {r : Ordering} (o : Ordering) → (x ≡ y → ⊥) → r ≡ number_order x y → r ≡ and_then (number_order x y) o
stop {x = x} {y = y} o d f = f ∙ by_order (λ p. p ≡ and_then p o) x y (λ h. refl) (λ e. absurd (d e)) (λ h. refl)

-- in the equality, a number that agrees is passed over
pub pass : {x y : ℕ} {r o : Bool} → x ≡ y → r ≡ o → r ≡ (eqb x y && o)
pass {x = x} {y = y} e f = rw (eq-eqb x y e) f

-- and one that differs decides
pub differ : {x y : ℕ} (o : Bool) → (x ≡ y → ⊥) → false ≡ (eqb x y && o)
differ {x = x} {y = y} o d = rw (ne_eqb x y d)

-- the same of numbers that go by other names
module _ {x y u v : ℕ} (p : x ≡ u) (q : y ≡ v) where
  pub skip_as : {r o : Ordering} → x ≡ y → r ≡ o → r ≡ and_then (number_order u v) o
  skip_as e f = rw (sym p, sym q) (skip e f)

  pub stop_as : {r : Ordering} (o : Ordering) → (x ≡ y → ⊥) → r ≡ number_order x y → r ≡ and_then (number_order u v) o
  stop_as o d f = rw (sym p, sym q) (stop o d f)

  pub pass_as : {r o : Bool} → x ≡ y → r ≡ o → r ≡ (eqb u v && o)
  pass_as e f = rw (sym p, sym q) (pass e f)

  pub differ_as : (o : Bool) → (x ≡ y → ⊥) → false ≡ (eqb u v && o)
  differ_as o d = rw (sym p, sym q) (differ o d)

-- the same of arrays, by their packed numbers
module _ {k : ℕ} {u v : List ℕ} {x y : ℕ} (p : Packed k u x) (q : Packed k v y) where
  front_order : (s t : List ℕ) → and_then (number_order x y) (lex s t) ≡ lex (u ++ s) (v ++ t)
  front_order s t =
      sym (joined u v s t (p.long ∙ sym q.long) ∙ ap (λ (o : Ordering). and_then o (lex s t)) (sym (packed_order p q)))

  front_agree : (s t : List ℕ) → (eqb x y && agree s t) ≡ agree (u ++ s) (v ++ t)
  front_agree s t =
      rw (number_agree x y, agree_order s t)
      (sym (both_equal (number_order x y) (lex s t)) ∙ (ap is_equal (front_order s t) ∙ sym (agree_order (u ++ s) (v ++ t))))

  pub skip_bytes : {r : Ordering} (s t : List ℕ) → x ≡ y → r ≡ lex s t → r ≡ lex (u ++ s) (v ++ t)
  skip_bytes s t e f = skip e f ∙ front_order s t

  pub stop_bytes : {r : Ordering} (s t : List ℕ) → (x ≡ y → ⊥) → r ≡ number_order x y → r ≡ lex (u ++ s) (v ++ t)
  stop_bytes s t d f = stop (lex s t) d f ∙ front_order s t

  pub pass_bytes : {r : Bool} (s t : List ℕ) → x ≡ y → r ≡ agree s t → r ≡ agree (u ++ s) (v ++ t)
  pass_bytes s t e f = pass e f ∙ front_agree s t

  pub differ_bytes : (s t : List ℕ) → (x ≡ y → ⊥) → false ≡ agree (u ++ s) (v ++ t)
  differ_bytes s t d = differ (agree s t) d ∙ front_agree s t

  -- the last array
  pub last_order : {r : Ordering} → r ≡ number_order x y → r ≡ lex u v
  last_order f = f ∙ packed_order p q

  pub last_agree : eqb x y ≡ agree u v
  last_agree = number_agree x y ∙ (ap is_equal (packed_order p q) ∙ sym (agree_order u v))
