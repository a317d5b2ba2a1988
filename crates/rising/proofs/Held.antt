-- What is found among rising places, and that rising places are fixed by it. Assumes nothing.
use Prim.Native.Nat.{ℕ, zero, suc, ◌<◌}
use mathlib.Core.Path.{◌≡◌, refl, sym, ◌∙◌}
use mathlib.Core.List.{List, [], ◌∷◌}
use native.Mathlib.Omega.{arith}
use native.Mathlib.Nat.{not-suc-le-zero}
use lib.ListN.{length, get_or}
use Rattle.order.specs.declared.Ordering.{Ordering}
use Rattle.rising.specs.Rising.{by_order, of_first, Above, Rises, Ranks}
use Rattle.rising.specs.Steps.{held, taken_in, risen}
use Rattle.rising.proofs.Ranked.{cases, less_equal, less_greater, Toward, toward_place, own_equal, less_back, greater_back}
use Rattle.rising.proofs.Places.{above_at}

module _ (how : ℕ → ℕ → Ordering) {to : ℕ → Ordering} (w : Toward how to) {A : Type 0} (f : ℕ → A) where
  -- above one that is Greater nothing is Equal
  first_above : (q : ℕ) (qs : List ℕ) (d : A) → to q ≡ Ordering.Greater → Above how q qs → of_first to f qs d ≡ d
  unfolding of_first
  first_above q [] d e a = refl
  first_above q (x ∷ qs) d e a = rw (w.stays q x a.0 e) (first_above q qs d e a.1)

  -- among rising places the one that is held is the first that is Equal
  pub held_first : (qs : List ℕ) (d : A) → Rises how qs → held to f qs d ≡ of_first to f qs d
  unfolding held of_first
  held_first [] d r = refl
  held_first (q ∷ qs) d r =
      cases (to q)
      (λ e. rw e (held_first qs d r.1))
      (λ e. rw e)
      (λ e. rw e (sym (first_above q qs d e r.0)))

  -- p taken in, what is found is what was there, or else p where it is Equal
  held_more : Ranks how → (p : ℕ) (qs : List ℕ) (d : A) → held to f (taken_in how p qs) d ≡ held to f qs (by_order (to p) d (f p) d)
  unfolding held taken_in
  held_more good p [] d = refl
  held_more good p (q ∷ qs) d =
      cases (how q p)
      (λ e. rw e
      (cases (to q)
      (λ g. rw g (held_more good p qs d))
      (λ g. rw g)
      (λ g. rw (g, w.stays q p e g))))
      (λ e. rw (e, sym (w.same q p e))
      (cases (to q)
      (λ g. rw g)
      (λ g. rw g)
      (λ g. rw g)))
      (λ e. rw e
      (let b = greater_back how good q p e in
      cases (to p)
      (λ g. rw g)
      (λ g. rw (g, w.past p q b g))
      (λ g. rw (g, w.stays p q b g))))

  -- all of ps taken in: what was there, or else what is found among ps
  pub held_risen : Ranks how → (qs ps : List ℕ) (d : A) → held to f (risen how qs ps) d ≡ held to f qs (of_first to f ps d)
  unfolding risen of_first
  held_risen good qs [] d = refl
  held_risen good qs (p ∷ ps) d =
      held_risen good (taken_in how p qs) ps d ∙ held_more good p qs (of_first to f ps d)

module _ (how : ℕ → ℕ → Ordering) (good : Ranks how) where
  -- one of rising places is found as itself
  pub held_own : (qs : List ℕ) (i d : ℕ) → Rises how qs → i < length qs → held (λ q. how q (get_or qs i 0)) (λ q. q) qs d ≡ get_or qs i 0
  unfolding held
  held_own [] i d r h = absurd (not-suc-le-zero h)
  held_own (q ∷ qs) zero d r h = rw (own_equal how good q)
  held_own (q ∷ qs) (suc i) d r h = rw (above_at how q i qs r.0 (omega arith)) (held_own qs i d r.1 (omega arith))

  -- the same is found among two lists
  abbrev Alike : List ℕ → List ℕ → Type 0
  Alike qs rs = (x d : ℕ) → held (λ q. how q x) (λ q. q) qs d ≡ held (λ q. how q x) (λ q. q) rs d

  -- nothing that isn't greater than q is found above it
  held_above : (x q : ℕ) (qs : List ℕ) (d : ℕ) → (how q x ≡ Ordering.Less → ⊥) → Above how q qs → held (λ r. how r x) (λ r. r) qs d ≡ d
  unfolding held
  held_above x q [] d e a = refl
  held_above x q (r ∷ qs) d e a =
      let t = toward_place how good x in
      cases (how q x)
      (λ g. absurd (e g))
      (λ g. rw (t.past q r a.0 g))
      (λ g. rw (t.stays q r a.0 g))

  unequal : {n : ℕ} → suc n ≡ n → ⊥
  unequal e = omega arith

  -- the first of two lists of rising places in which the same is found isn't greater than that of the other
  not_behind : (q r : ℕ) (qs rs : List ℕ) → Alike (q ∷ qs) (r ∷ rs) → how r q ≡ Ordering.Greater → ⊥
  unfolding held
  not_behind q r qs rs s e =
      let a : q ≡ suc q = rw (own_equal how good q, e) at (s q (suc q)) in unequal (sym a)

  tails : (q : ℕ) (qs rs : List ℕ) → Rises how (q ∷ qs) → Rises how (q ∷ rs) → Alike (q ∷ qs) (q ∷ rs) → Alike qs rs
  unfolding held
  tails q qs rs a b s x d =
      cases (how q x)
      (λ e. rw e at (s x d))
      (λ e. both (λ g. less_equal g e))
      (λ e. both (λ g. less_greater g e))
    where
      both : (how q x ≡ Ordering.Less → ⊥) → held (λ r. how r x) (λ r. r) qs d ≡ held (λ r. how r x) (λ r. r) rs d
      both n = held_above x q qs d n a.0 ∙ sym (held_above x q rs d n b.0)

  -- rising places are fixed by what is found among them
  pub rising_one : (qs rs : List ℕ) → Rises how qs → Rises how rs → Alike qs rs → qs ≡ rs
  unfolding held
  rising_one [] [] a b s = refl
  rising_one [] (r ∷ rs) a b s = let e : suc r ≡ r = rw (own_equal how good r) at (s r (suc r)) in absurd (unequal e)
  rising_one (q ∷ qs) [] a b s = let e : q ≡ suc q = rw (own_equal how good q) at (s q (suc q)) in absurd (unequal (sym e))
  rising_one (q ∷ qs) (r ∷ rs) a b s =
      cases (how r q)
      (λ e. absurd (not_behind r q rs qs (λ x d. sym (s x d)) (less_back how good r q e)))
      (λ e.
      let k : q ≡ r = rw (own_equal how good q, e) at (s q 0) in
      let l : qs ≡ rs = rising_one qs rs a.1 b.1 (tails q qs rs a (rw (sym k) at b) (rw (sym k) at s)) in
      cc)
      (λ e. absurd (not_behind q r qs rs s e))
