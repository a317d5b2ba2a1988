-- The rank of one among rising places, and that it keeps them rising to take it in there. Assumes nothing.
use Prim.Native.Nat.{ℕ, zero, suc, ◌≤◌, ◌<◌}
use mathlib.Core.Path.{◌≡◌, refl, sym, ap, ◌∙◌}
use mathlib.Core.List.{List, [], ◌∷◌}
use mathlib.Core.Bool.{Bool, true, false, cond}
use native.Mathlib.Omega.{arith}
use native.Mathlib.Nat.{not-suc-le-zero}
use native.Mathlib.Decide.{dec_le}
use lib.ListN.{length, get_or}
use Rattle.laws.proofs.Tests.{clash}
use Rattle.order.specs.declared.Ordering.{Ordering}
use Rattle.rising.specs.Rising.{by_order, Above, Rises, Ranks}
use Rattle.rising.specs.Steps.{rank, held, hit, taken_in, risen, insert_at}
use Rattle.rising.proofs.Ranked.{cases, Toward, greater_back}

module _ (to : ℕ → Ordering) where
  pub rank_most : (qs : List ℕ) → rank to qs ≤ length qs
  unfolding rank
  rank_most [] = omega arith
  rank_most (q ∷ qs) =
      cases (to q)
      (λ e. rw e (omega (arith, rank_most qs)))
      (λ e. rw e (omega arith))
      (λ e. rw e (omega arith))

  -- a place before the rank is Less
  pub rank_before : (i : ℕ) (qs : List ℕ) → i < rank to qs → to (get_or qs i 0) ≡ Ordering.Less
  unfolding rank
  rank_before i [] h = absurd (not-suc-le-zero h)
  rank_before i (q ∷ qs) h =
      cases (to q)
      (λ e. first i e (λ j. rank_before j qs) (rw e at h))
      (λ e. absurd (not-suc-le-zero (rw e at h)))
      (λ e. absurd (not-suc-le-zero (rw e at h)))
    where
      first : (j : ℕ) → to q ≡ Ordering.Less → ((k : ℕ) → k < rank to qs → to (get_or qs k 0) ≡ Ordering.Less)
          → j < suc (rank to qs) → to (get_or (q ∷ qs) j 0) ≡ Ordering.Less
      first zero e more g = e
      first (suc j) e more g = more j (omega arith)

  -- the place at the rank is hit where it is Equal
  pub hit_at : (qs : List ℕ) → rank to qs < length qs → hit to qs ≡ by_order (to (get_or qs (rank to qs) 0)) false true false
  unfolding rank held
  hit_at [] h = absurd (not-suc-le-zero h)
  hit_at (q ∷ qs) h =
      cases (to q)
      (λ e. let g : suc (rank to qs) < suc (length qs) = rw e at h in rw e (hit_at qs (omega arith)))
      (λ e. rw (e, e))
      (λ e. rw (e, e))

  -- where all are Less none is hit
  pub hit_none : (qs : List ℕ) → rank to qs ≡ length qs → hit to qs ≡ false
  unfolding rank held
  hit_none [] h = refl
  hit_none (q ∷ qs) h =
      cases (to q)
      (λ e. let g : suc (rank to qs) ≡ suc (length qs) = rw e at h in rw e (hit_none qs (omega arith)))
      (λ e. let g : 0 ≡ suc (length qs) = rw e at h in absurd (omega arith))
      (λ e. rw e)

  -- one that is hit is within
  pub hit_within : (qs : List ℕ) → hit to qs ≡ true → rank to qs < length qs
  hit_within qs h =
      elim (dec_le (suc (rank to qs)) (length qs)) [
        | yes k ↦ k
        | no k ↦
            let g : hit to qs ≡ false = hit_none qs (omega (arith, rank_most qs)) in
            let z : ◌≡◌ {A = ℕ} 0 1 = (let f : true ≡ false = sym h ∙ g in cc) in
            clash z
      ]

module _ (how : ℕ → ℕ → Ordering) where
  -- p taken in: at its rank, or not where it is hit
  pub among_is : (p : ℕ) (qs : List ℕ) → taken_in how p qs ≡ cond (hit (λ q. how q p) qs) qs (insert_at (rank (λ q. how q p) qs) p qs)
  unfolding taken_in held rank
  among_is p [] = refl
  among_is p (q ∷ qs) =
      cases (how q p)
      (λ e. rw e (by_hit (hit (λ x. how x p) qs) (among_is p qs)))
      (λ e. rw e)
      (λ e. rw e)
    where
      by_hit : (b : Bool) → taken_in how p qs ≡ cond b qs (insert_at (rank (λ x. how x p) qs) p qs)
          → q ∷ taken_in how p qs ≡ cond b (q ∷ qs) (q ∷ insert_at (rank (λ x. how x p) qs) p qs)
      by_hit true e = ap (λ (l : List ℕ). q ∷ l) e
      by_hit false e = ap (λ (l : List ℕ). q ∷ l) e

  -- so where it is hit all stay as they are
  pub among_hit : (p : ℕ) (qs : List ℕ) → hit (λ q. how q p) qs ≡ true → taken_in how p qs ≡ qs
  among_hit p qs h = among_is p qs ∙ ap (λ (y : Bool). cond y qs (insert_at (rank (λ q. how q p) qs) p qs)) h

  pub above_at : (p i : ℕ) (qs : List ℕ) → Above how p qs → i < length qs → how p (get_or qs i 0) ≡ Ordering.Less
  above_at p i [] a h = absurd (not-suc-le-zero h)
  above_at p zero (q ∷ qs) a h = a.0
  above_at p (suc i) (q ∷ qs) a h = above_at p i qs a.1 (omega arith)

  -- each of rising places is Less than those behind it
  pub rising_at : (i j : ℕ) (qs : List ℕ) → Rises how qs → i < j → j < length qs → how (get_or qs i 0) (get_or qs j 0) ≡ Ordering.Less
  rising_at i j [] r h k = absurd (not-suc-le-zero k)
  rising_at i zero (q ∷ qs) r h k = absurd (not-suc-le-zero h)
  rising_at zero (suc j) (q ∷ qs) r h k = above_at q j qs r.0 (omega arith)
  rising_at (suc i) (suc j) (q ∷ qs) r h k = rising_at i j qs r.1 (omega arith) (omega arith)

  -- among rising places one that is Less stands before the rank
  pub rank_behind : {to : ℕ → Ordering} → Toward how to → (i : ℕ) (qs : List ℕ) → Rises how qs → i < length qs → to (get_or qs i 0) ≡ Ordering.Less
      → i < rank to qs
  unfolding rank
  rank_behind w i [] r h e = absurd (not-suc-le-zero h)
  rank_behind w zero (q ∷ qs) r h e = rw e (omega arith)
  rank_behind {to} w (suc i) (q ∷ qs) r h e =
      let g : i < length qs = omega arith in
      let f : to q ≡ Ordering.Less = w.falls q _ (above_at q i qs r.0 g) e in
      rw f (omega (arith, rank_behind w i qs r.1 g e))

  among_more : (p : ℕ) (qs : List ℕ) → length qs ≤ length (taken_in how p qs)
  unfolding taken_in
  among_more p [] = omega arith
  among_more p (q ∷ qs) =
      cases (how q p)
      (λ e. rw e (omega (arith, among_more p qs)))
      (λ e. rw e (omega arith))
      (λ e. rw e (omega arith))

  -- places only grow in number
  pub risen_more : (qs ps : List ℕ) → length qs ≤ length (risen how qs ps)
  unfolding risen
  risen_more qs [] = omega arith
  risen_more qs (p ∷ ps) = omega (arith, among_more p qs, risen_more (taken_in how p qs) ps)

  module _ (good : Ranks how) where
    pub above_more : (p q : ℕ) (qs : List ℕ) → how p q ≡ Ordering.Less → Above how q qs → Above how p qs
    above_more p q [] e a = tt
    above_more p q (x ∷ qs) e a = (good.on p q x e a.0, above_more p q qs e a.1)

    above_among : (q p : ℕ) (qs : List ℕ) → how q p ≡ Ordering.Less → Above how q qs → Above how q (taken_in how p qs)
    unfolding taken_in
    above_among q p [] e a = (e, tt)
    above_among q p (x ∷ qs) e a =
        cases (how x p)
        (λ f. rw f (a.0, above_among q p qs e a.1))
        (λ f. rw f a)
        (λ f. rw f (e, a))

    -- p taken in keeps the places rising
    pub rising_among : (p : ℕ) (qs : List ℕ) → Rises how qs → Rises how (taken_in how p qs)
    unfolding taken_in
    rising_among p [] r = (tt, tt)
    rising_among p (q ∷ qs) r =
        cases (how q p)
        (λ e. rw e (above_among q p qs e r.0, rising_among p qs r.1))
        (λ e. rw e r)
        (λ e. let f = greater_back how good q p e in rw e ((f, above_more p q qs f r.0), r))

    pub rising_risen : (qs ps : List ℕ) → Rises how qs → Rises how (risen how qs ps)
    unfolding risen
    rising_risen qs [] r = r
    rising_risen qs (p ∷ ps) r = rising_risen (taken_in how p qs) ps (rising_among p qs r)

pub insert_length : (i x : ℕ) (l : List ℕ) → length (insert_at i x l) ≡ suc (length l)
insert_length zero x l = refl
insert_length (suc i) x [] = refl
insert_length (suc i) x (q ∷ l) = ap suc (insert_length i x l)
