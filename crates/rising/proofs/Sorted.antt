-- The first of each kind, sorted, rise, and anything is found among them as it is among all: so they are what is gathered one by one.
-- Assumes nothing.
use Prim.Native.Nat.{ℕ}
use mathlib.Core.Path.{◌≡◌, refl, sym, ap, ◌∙◌}
use mathlib.Core.List.{List, [], ◌∷◌}
use Rattle.order.specs.declared.Ordering.{Ordering}
use Rattle.rising.specs.Rising.{by_order, of_first, without, distinct, sorted_in, sorted, Above, Rises, Ranks, RisingFixes}
use Rattle.rising.specs.Steps.{held, risen}
use Rattle.rising.proofs.Ranked.{cases, less_equal, greater_equal, Toward, toward_place, greater_back}
use Rattle.rising.proofs.Places.{above_more, rising_risen}
use Rattle.rising.proofs.Held.{held_first, held_risen, rising_one}

module _ (how : ℕ → ℕ → Ordering) where
  -- no place of qs is Equal to p
  abbrev Apart : ℕ → List ℕ → Type 0
  Apart p [] = Unit {0}
  Apart p (q ∷ qs) = (how q p ≡ Ordering.Equal → ⊥) × Apart p qs

  -- no place is Equal to one behind it
  abbrev AllApart : List ℕ → Type 0
  AllApart [] = Unit {0}
  AllApart (p ∷ ps) = Apart p ps × AllApart ps

  without_apart : (p : ℕ) (qs : List ℕ) → Apart p (without how p qs)
  unfolding without
  without_apart p [] = tt
  without_apart p (q ∷ qs) =
      cases (how q p)
      (λ e. rw e ((λ g. less_equal e g), without_apart p qs))
      (λ e. rw e (without_apart p qs))
      (λ e. rw e ((λ g. greater_equal e g), without_apart p qs))

  apart_without : (x p : ℕ) (qs : List ℕ) → Apart x qs → Apart x (without how p qs)
  unfolding without
  apart_without x p [] a = tt
  apart_without x p (q ∷ qs) a =
      cases (how q p)
      (λ e. rw e (a.0, apart_without x p qs a.1))
      (λ e. rw e (apart_without x p qs a.1))
      (λ e. rw e (a.0, apart_without x p qs a.1))

  all_without : (p : ℕ) (qs : List ℕ) → AllApart qs → AllApart (without how p qs)
  unfolding without
  all_without p [] a = tt
  all_without p (q ∷ qs) a =
      cases (how q p)
      (λ e. rw e (apart_without q p qs a.0, all_without p qs a.1))
      (λ e. rw e (all_without p qs a.1))
      (λ e. rw e (apart_without q p qs a.0, all_without p qs a.1))

  distinct_apart : (ps : List ℕ) → AllApart (distinct how ps)
  unfolding distinct
  distinct_apart [] = tt
  distinct_apart (p ∷ ps) = (without_apart p (distinct how ps), all_without p (distinct how ps) (distinct_apart ps))

  apart_in : (x p : ℕ) (qs : List ℕ) → (how p x ≡ Ordering.Equal → ⊥) → Apart x qs → Apart x (sorted_in how p qs)
  unfolding sorted_in
  apart_in x p [] n a = (n, tt)
  apart_in x p (q ∷ qs) n a =
      cases (how q p)
      (λ e. rw e (a.0, apart_in x p qs n a.1))
      (λ e. rw e (n, a))
      (λ e. rw e (n, a))

  apart_sorted : (x : ℕ) (ps : List ℕ) → Apart x ps → Apart x (sorted how ps)
  unfolding sorted
  apart_sorted x [] a = tt
  apart_sorted x (p ∷ ps) a = apart_in x p (sorted how ps) a.0 (apart_sorted x ps a.1)

  above_in : (x p : ℕ) (qs : List ℕ) → how x p ≡ Ordering.Less → Above how x qs → Above how x (sorted_in how p qs)
  unfolding sorted_in
  above_in x p [] e a = (e, tt)
  above_in x p (q ∷ qs) e a =
      cases (how q p)
      (λ g. rw g (a.0, above_in x p qs e a.1))
      (λ g. rw g (e, a))
      (λ g. rw g (e, a))

  module _ (good : Ranks how) where
    rising_in : (p : ℕ) (qs : List ℕ) → Apart p qs → Rises how qs → Rises how (sorted_in how p qs)
    unfolding sorted_in
    rising_in p [] a r = (tt, tt)
    rising_in p (q ∷ qs) a r =
        cases (how q p)
        (λ e. rw e (above_in q p qs e r.0, rising_in p qs a.1 r.1))
        (λ e. absurd (a.0 e))
        (λ e. let f = greater_back how good q p e in rw e ((f, above_more how good p q qs f r.0), r))

    rising_sorted : (ps : List ℕ) → AllApart ps → Rises how (sorted how ps)
    unfolding sorted
    rising_sorted [] a = tt
    rising_sorted (p ∷ ps) a = rising_in p (sorted how ps) (apart_sorted p ps a.0) (rising_sorted ps a.1)

  module _ {to : ℕ → Ordering} (w : Toward how to) {A : Type 0} (f : ℕ → A) where
    -- where p isn't Equal, nothing is found less without those that are Equal to p
    first_without : (p : ℕ) (qs : List ℕ) (d : A) → (to p ≡ Ordering.Equal → ⊥) → of_first to f (without how p qs) d ≡ of_first to f qs d
    unfolding without of_first
    first_without p [] d n = refl
    first_without p (q ∷ qs) d n =
        cases (how q p)
        (λ e. rw e (kept (first_without p qs d n)))
        (λ e. rw (e, w.same q p e)
        (cases (to p)
        (λ g. rw g (first_without p qs d n))
        (λ g. absurd (n g))
        (λ g. rw g (first_without p qs d n))))
        (λ e. rw e (kept (first_without p qs d n)))
      where
        kept : {x y : A} → x ≡ y → by_order (to q) x (f q) x ≡ by_order (to q) y (f q) y
        kept e = ap (λ (z : A). by_order (to q) z (f q) z) e

    first_distinct : (ps : List ℕ) (d : A) → of_first to f (distinct how ps) d ≡ of_first to f ps d
    unfolding distinct of_first
    first_distinct [] d = refl
    first_distinct (p ∷ ps) d =
        cases (to p)
        (λ e. rw e (first_without p (distinct how ps) d (λ g. less_equal e g) ∙ first_distinct ps d))
        (λ e. rw e)
        (λ e. rw e (first_without p (distinct how ps) d (λ g. greater_equal e g) ∙ first_distinct ps d))

    first_in : (p : ℕ) (qs : List ℕ) (d : A) → Apart p qs
        → of_first to f (sorted_in how p qs) d ≡ by_order (to p) (of_first to f qs d) (f p) (of_first to f qs d)
    unfolding sorted_in of_first
    first_in p [] d a = refl
    first_in p (q ∷ qs) d a =
        cases (how q p)
        (λ e. rw (e, first_in p qs d a.1) (turned (of_first to f qs d) a.0 (w.meet q p)))
        (λ e. absurd (a.0 e))
        (λ e. rw e)
      where
        turned : (x : A) → (how q p ≡ Ordering.Equal → ⊥) → (to q ≡ Ordering.Equal → to p ≡ Ordering.Equal → how q p ≡ Ordering.Equal)
            → by_order (to q) (by_order (to p) x (f p) x) (f q) (by_order (to p) x (f p) x) ≡ by_order (to p) (by_order (to q) x (f q) x) (f p) (by_order (to q) x (f q) x)
        turned x n meet =
            cases (to p)
            (λ g. rw g)
            (λ g.
            cases (to q)
            (λ h. rw (g, h))
            (λ h. absurd (n (meet h g)))
            (λ h. rw (g, h)))
            (λ g. rw g)

    first_sorted : (ps : List ℕ) (d : A) → AllApart ps → of_first to f (sorted how ps) d ≡ of_first to f ps d
    unfolding sorted of_first
    first_sorted [] d a = refl
    first_sorted (p ∷ ps) d a =
        first_in p (sorted how ps) d (apart_sorted p ps a.0)
        ∙ ap (λ (x : A). by_order (to p) x (f p) x) (first_sorted ps d a.1)

module _ (how : ℕ → ℕ → Ordering) (good : Ranks how) (ps : List ℕ) where
  -- the first of each kind, sorted, rise
  pub rising_distinct : Rises how (sorted how (distinct how ps))
  rising_distinct = rising_sorted how good (distinct how ps) (distinct_apart how ps)

  -- anything is found among them as it is among all
  pub found_distinct : {to : ℕ → Ordering} → Toward how to → {A : Type 0} (f : ℕ → A) (d : A) → held to f (sorted how (distinct how ps)) d ≡ of_first to f ps d
  found_distinct w f d =
      held_first how w f (sorted how (distinct how ps)) d rising_distinct
      ∙ first_sorted how w f (distinct how ps) d (distinct_apart how ps)
      ∙ first_distinct how w f ps d

  -- what is taken in one by one is just that
  pub risen_is : risen how [] ps ≡ sorted how (distinct how ps)
  unfolding held
  risen_is =
      rising_one how good (risen how [] ps) (sorted how (distinct how ps)) (rising_risen how good [] ps tt) rising_distinct
      (λ x d.
      held_risen how (toward_place how good x) (λ (q : ℕ). q) good [] ps d
      ∙ sym (found_distinct (toward_place how good x) (λ q. q) d))

-- nothing else rises in which the same is found
pub rising_fixes : RisingFixes
rising_fixes how good qs ps r same =
    rising_one how good qs (sorted how (distinct how ps)) r (rising_distinct how good ps)
    (λ x d.
    let w = toward_place how good x in
    held_first how w (λ q. q) qs d r ∙ same x d ∙ sym (found_distinct how good ps w (λ q. q) d))
