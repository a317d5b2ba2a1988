-- Two orders that agree on some places sort them and count them alike. Assumes nothing.
use Prim.Native.Nat.{ℕ, zero, suc, ◌<◌}
use mathlib.Core.Path.{◌≡◌, refl, ap, ◌∙◌}
use mathlib.Core.List.{List, [], ◌∷◌, map}
use native.Mathlib.Omega.{arith}
use native.Mathlib.Nat.{not-suc-le-zero}
use lib.ListN.{length, get_or}
use Rattle.order.specs.declared.Ordering.{Ordering}
use Rattle.rising.specs.Rising.{of_first, count_equal, without, distinct, sorted_in, sorted}
use Rattle.rising.proofs.Ranked.{cases}

-- P holds of every place
abbrev pub Each : (ℕ → Type 0) → List ℕ → Type 0
Each P [] = Unit {0}
Each P (p ∷ ps) = P p × Each P ps

pub each_of : (P : ℕ → Type 0) (ps : List ℕ) → ((i : ℕ) → i < length ps → P (get_or ps i 0)) → Each P ps
each_of P [] h = tt
each_of P (p ∷ ps) h = (h 0 (omega arith), each_of P ps (λ i k. h (suc i) (omega arith)))

pub each_at : (P : ℕ → Type 0) (ps : List ℕ) → Each P ps → (i : ℕ) → i < length ps → P (get_or ps i 0)
each_at P [] e i h = absurd (not-suc-le-zero h)
each_at P (p ∷ ps) e zero h = e.0
each_at P (p ∷ ps) e (suc i) h = each_at P ps e.1 i (omega arith)

-- it holds of those that stay, and of those that are sorted
module _ (P : ℕ → Type 0) (how : ℕ → ℕ → Ordering) where
  each_without : (p : ℕ) (qs : List ℕ) → Each P qs → Each P (without how p qs)
  unfolding without
  each_without p [] e = tt
  each_without p (q ∷ qs) e =
      cases (how q p)
      (λ f. rw f (e.0, each_without p qs e.1))
      (λ f. rw f (each_without p qs e.1))
      (λ f. rw f (e.0, each_without p qs e.1))

  each_distinct : (ps : List ℕ) → Each P ps → Each P (distinct how ps)
  unfolding distinct
  each_distinct [] e = tt
  each_distinct (p ∷ ps) e = (e.0, each_without p (distinct how ps) (each_distinct ps e.1))

  each_in : (p : ℕ) (qs : List ℕ) → P p → Each P qs → Each P (sorted_in how p qs)
  unfolding sorted_in
  each_in p [] h e = (h, tt)
  each_in p (q ∷ qs) h e =
      cases (how q p)
      (λ f. rw f (e.0, each_in p qs h e.1))
      (λ f. rw f (h, e))
      (λ f. rw f (h, e))

  each_sorted : (ps : List ℕ) → Each P ps → Each P (sorted how ps)
  unfolding sorted
  each_sorted [] e = tt
  each_sorted (p ∷ ps) e = each_in p (sorted how ps) e.0 (each_sorted ps e.1)

  pub each_first : (ps : List ℕ) → Each P ps → Each P (sorted how (distinct how ps))
  each_first ps e = each_sorted (distinct how ps) (each_distinct ps e)

module _ (P : ℕ → Type 0) (how other : ℕ → ℕ → Ordering) (same : (p q : ℕ) → P p → P q → how p q ≡ other p q) where
  same_without : (p : ℕ) (qs : List ℕ) → P p → Each P qs → without how p qs ≡ without other p qs
  unfolding without
  same_without p [] h e = refl
  same_without p (q ∷ qs) h e = rw (same q p e.0 h, same_without p qs h e.1)

  same_distinct : (ps : List ℕ) → Each P ps → distinct how ps ≡ distinct other ps
  unfolding distinct
  same_distinct [] e = refl
  same_distinct (p ∷ ps) e =
      ap (λ (l : List ℕ). p ∷ l)
      (same_without p (distinct how ps) e.0 (each_distinct P how ps e.1) ∙ ap (without other p) (same_distinct ps e.1))

  same_in : (p : ℕ) (qs : List ℕ) → P p → Each P qs → sorted_in how p qs ≡ sorted_in other p qs
  unfolding sorted_in
  same_in p [] h e = refl
  same_in p (q ∷ qs) h e = rw (same q p e.0 h, same_in p qs h e.1)

  same_sorted : (ps : List ℕ) → Each P ps → sorted how ps ≡ sorted other ps
  unfolding sorted
  same_sorted [] e = refl
  same_sorted (p ∷ ps) e =
      same_in p (sorted how ps) e.0 (each_sorted P how ps e.1) ∙ ap (sorted_in other p) (same_sorted ps e.1)

  -- the first of each kind, sorted
  pub same_first : (ps : List ℕ) → Each P ps → sorted how (distinct how ps) ≡ sorted other (distinct other ps)
  same_first ps e = same_sorted (distinct how ps) (each_distinct P how ps e) ∙ ap (sorted other) (same_distinct ps e)

  pub same_count : (q : ℕ) (ps : List ℕ) → P q → Each P ps → count_equal (λ p. how p q) ps ≡ count_equal (λ p. other p q) ps
  unfolding count_equal
  same_count q [] h e = refl
  same_count q (p ∷ ps) h e = rw (same p q e.0 h, same_count q ps h e.1)

-- what is found among places goes by how they stand
pub same_found : (P : ℕ → Type 0) (to other : ℕ → Ordering) → ((q : ℕ) → P q → to q ≡ other q) → {A : Type 0} (f : ℕ → A) (ps : List ℕ) (d : A) → Each P ps
    → of_first to f ps d ≡ of_first other f ps d
unfolding of_first
same_found P to other same f [] d e = refl
same_found P to other same f (p ∷ ps) d e = rw (same p e.0, same_found P to other same f ps d e.1)

pub same_map : (P : ℕ → Type 0) (f g : ℕ → ℕ) → ((q : ℕ) → P q → f q ≡ g q) → (ps : List ℕ) → Each P ps → map f ps ≡ map g ps
same_map P f g same [] e = refl
same_map P f g same (p ∷ ps) e = rw (same p e.0, same_map P f g same ps e.1)
