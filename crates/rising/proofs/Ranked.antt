-- How places of an order stand to one thing: to a place, or to anything that they can be held against. Assumes nothing.
use Prim.Native.Nat.{ℕ}
use mathlib.Core.Path.{◌≡◌, refl, sym, ap, ◌∙◌}
use Rattle.laws.proofs.Tests.{clash}
use Rattle.order.specs.declared.Ordering.{Ordering}
use Rattle.order.specs.Total.{flip}
use Rattle.rising.specs.Rising.{Ranks}

-- by the three cases of an order
pub cases : {A : Type 0} (o : Ordering) → (o ≡ Ordering.Less → A) → (o ≡ Ordering.Equal → A) → (o ≡ Ordering.Greater → A) → A
cases Ordering.Less l e g = l refl
cases Ordering.Equal l e g = e refl
cases Ordering.Greater l e g = g refl

-- no order is two of them
pub less_equal : {A : Type 0} {o : Ordering} → o ≡ Ordering.Less → o ≡ Ordering.Equal → A
less_equal e f = let z : ◌≡◌ {A = ℕ} 0 1 = cc in clash z

pub less_greater : {A : Type 0} {o : Ordering} → o ≡ Ordering.Less → o ≡ Ordering.Greater → A
less_greater e f = let z : ◌≡◌ {A = ℕ} 0 1 = cc in clash z

pub greater_equal : {A : Type 0} {o : Ordering} → o ≡ Ordering.Greater → o ≡ Ordering.Equal → A
greater_equal e f = let z : ◌≡◌ {A = ℕ} 0 1 = cc in clash z

-- `to` says how places stand to one thing, in keeping with the order of the places
pub record Toward (how : ℕ → ℕ → Ordering) (to : ℕ → Ordering) : Type 0 where
  pub same : (p q : ℕ) → how p q ≡ Ordering.Equal → to p ≡ to q
  pub meet : (p q : ℕ) → to p ≡ Ordering.Equal → to q ≡ Ordering.Equal → how p q ≡ Ordering.Equal
  pub falls : (p q : ℕ) → how p q ≡ Ordering.Less → to q ≡ Ordering.Less → to p ≡ Ordering.Less
  pub past : (p q : ℕ) → how p q ≡ Ordering.Less → to p ≡ Ordering.Equal → to q ≡ Ordering.Greater
  pub stays : (p q : ℕ) → how p q ≡ Ordering.Less → to p ≡ Ordering.Greater → to q ≡ Ordering.Greater

module _ (how : ℕ → ℕ → Ordering) (good : Ranks how) where
  pub equal_back : (p q : ℕ) → how p q ≡ Ordering.Equal → how q p ≡ Ordering.Equal
  equal_back p q e = good.back p q ∙ ap flip e

  pub greater_back : (p q : ℕ) → how p q ≡ Ordering.Greater → how q p ≡ Ordering.Less
  greater_back p q e = good.back p q ∙ ap flip e

  pub less_back : (p q : ℕ) → how p q ≡ Ordering.Less → how q p ≡ Ordering.Greater
  less_back p q e = good.back p q ∙ ap flip e

  -- a place is Equal to itself
  pub own_equal : (p : ℕ) → how p p ≡ Ordering.Equal
  own_equal p = own (how p p) (good.back p p)
    where
      own : (o : Ordering) → o ≡ flip o → o ≡ Ordering.Equal
      own Ordering.Less e = let z : ◌≡◌ {A = ℕ} 0 1 = cc in clash z
      own Ordering.Equal e = refl
      own Ordering.Greater e = let z : ◌≡◌ {A = ℕ} 0 1 = cc in clash z

  -- places stand so to a place
  pub toward_place : (x : ℕ) → Toward how (λ q. how q x)
  toward_place x =
      record {
        same = λ p q e. good.alike p q x e;
        meet = λ p q e f. good.alike p x q e ∙ equal_back q x f;
        falls = λ p q e f. good.on p q x e f;
        past = λ p q e f. less_back x q (sym (good.alike p x q f) ∙ e);
        stays = λ p q e f. less_back x q (good.on x p q (greater_back p x f) e);
      }
