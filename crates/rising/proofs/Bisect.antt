-- Halving: the rank of one among rising places lies between two ends. Assumes nothing.
use Prim.Native.Nat.{ℕ, zero, suc, ◌+◌, ◌≤◌, ◌<◌}
use mathlib.Core.Path.{◌≡◌, sym, ap, ◌∙◌}
use mathlib.Core.List.{List}
use mathlib.Core.Bool.{true, false}
use native.Mathlib.Omega.{arith}
use native.Mathlib.Decide.{dec_le}
use lib.ListN.{length, get_or}
use Rattle.order.specs.declared.Ordering.{Ordering}
use Rattle.rising.specs.Rising.{by_order, Rises}
use Rattle.rising.specs.Steps.{rank, hit}
use Rattle.rising.proofs.Ranked.{cases, less_equal, less_greater, greater_equal, Toward}
use Rattle.rising.proofs.Places.{rank_most, rank_before, rank_behind, rising_at, hit_at, hit_none}

-- the rank lies between lo and hi, and the place at hi is Greater
pub record Between (to : ℕ → Ordering) (qs : List ℕ) (lo hi : ℕ) : Type 0 where
  pub low : lo ≤ rank to qs
  pub high : rank to qs ≤ hi
  pub within : hi ≤ length qs
  pub beyond : hi < length qs → to (get_or qs hi 0) ≡ Ordering.Greater

module _ (to : ℕ → Ordering) (qs : List ℕ) where
  -- at first it lies between none and all
  pub between_all : (m : ℕ) → length qs ≡ m → Between to qs 0 m
  between_all m e =
      record { low = omega arith; high = omega (arith, rank_most to qs); within = omega arith; beyond = λ h. absurd (omega arith) }

  -- a place that isn't Less isn't before the rank
  rank_not : (i : ℕ) → (to (get_or qs i 0) ≡ Ordering.Less → ⊥) → rank to qs ≤ i
  rank_not i n =
      elim (dec_le (rank to qs) i) [
        | yes k ↦ k
        | no k ↦ absurd (n (rank_before to i qs (omega arith)))
      ]

  -- one that is Greater is the new upper end
  pub between_down : (lo hi mid : ℕ) → Between to qs lo hi → mid < hi → to (get_or qs mid 0) ≡ Ordering.Greater → Between to qs lo mid
  between_down lo hi mid b h e =
      record {
        low = b.low;
        high = rank_not mid (λ g. less_greater g e);
        within = omega (arith, b.within);
        beyond = λ k. e;
      }

  -- where the ends meet the rank is there, and none is Equal
  pub between_met : (lo hi : ℕ) → Between to qs lo hi → hi ≤ lo → (lo ≡ rank to qs) × (false ≡ hit to qs)
  between_met lo hi b h =
      let at : hi ≡ rank to qs = omega (arith, b.low, b.high) in (
        omega (arith, b.low, b.high),
        elim (dec_le (suc hi) (length qs)) [
          | yes k ↦
              sym (hit_at to qs (omega arith) ∙ ap (λ (i : ℕ). by_order (to (get_or qs i 0)) false true false) (sym at)
              ∙ ap (λ (o : Ordering). by_order o false true false) (b.beyond k))
          | no k ↦ sym (hit_none to qs (omega (arith, b.within)))
        ],
      )

  module _ (how : ℕ → ℕ → Ordering) (w : Toward how to) (r : Rises how qs) where
    -- one that is Less is below the new lower end
    pub between_up : (lo hi mid : ℕ) → Between to qs lo hi → mid < hi → to (get_or qs mid 0) ≡ Ordering.Less → Between to qs (mid + 1) hi
    between_up lo hi mid b h e =
        record {
          low = omega (arith, rank_behind how w mid qs r (omega (arith, b.within)) e);
          high = b.high;
          within = b.within;
          beyond = b.beyond;
        }

    -- before one that is Equal all are Less
    less_before : (i : ℕ) → suc i < length qs → to (get_or qs (suc i) 0) ≡ Ordering.Equal → to (get_or qs i 0) ≡ Ordering.Less
    less_before i h e =
        let next = rising_at how i (suc i) qs r (omega arith) h in
        cases (to (get_or qs i 0))
        (λ g. g)
        (λ g. greater_equal (w.past _ _ next g) e)
        (λ g. greater_equal (w.stays _ _ next g) e)

    -- one that is Equal is at the rank
    pub between_equal : (mid : ℕ) → mid < length qs → to (get_or qs mid 0) ≡ Ordering.Equal → (mid ≡ rank to qs) × (true ≡ hit to qs)
    between_equal mid h e =
        let low : mid ≤ rank to qs = below mid h e in
        let high : rank to qs ≤ mid = rank_not mid (λ g. less_equal g e) in
        let at : mid ≡ rank to qs = omega arith in (
          at,
          sym (hit_at to qs (omega arith) ∙ ap (λ (i : ℕ). by_order (to (get_or qs i 0)) false true false) (sym at)
              ∙ ap (λ (o : Ordering). by_order o false true false) e),
        )
      where
        below : (j : ℕ) → j < length qs → to (get_or qs j 0) ≡ Ordering.Equal → j ≤ rank to qs
        below zero k f = omega arith
        below (suc i) k f = rank_behind how w i qs r (omega arith) (less_before i k f)
