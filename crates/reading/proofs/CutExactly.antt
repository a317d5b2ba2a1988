-- 1, 2 with its row, and 8: each is told exactly under its condition. Assumes nothing.
use Prim.Native.Nat.{ℕ, ◌≤◌, ◌<◌}
use mathlib.Core.Path.{◌≡◌, refl, sym, ap, ◌∙◌}
use mathlib.Core.List.{List}
use mathlib.Core.Logic.{◌⊎◌, inl, inr}
use native.Mathlib.Omega.{arith}
use lib.Dec.{lit≤}
use lib.ListN.{length}
use Rattle.answers.specs.declared.Refusal.{Refusal}
use Rattle.answers.specs.declared.Told.{Told}
use Rattle.answers.specs.Numbers.{number_of, carried_by}
use Rattle.answers.specs.Tells.{refusal}
use Rattle.answers.proofs.OneToOne.{told_one}
use Rattle.reading.specs.Cut.{lacking}
use Rattle.reading.specs.Reading.{size_of, take_of}
use Rattle.reading.specs.Demand1.{TooFew, CutWithRow, CutBehind, CutEither, RowsFrom4}
use Rattle.reading.proofs.Cut.{row_exactly, none_exactly, by_lacking, row_from_4}
use Rattle.reading.proofs.Whole.{front, short, cut, whole, whole_short, whole_cut, whole_took}

-- one of 2 and 8, which is neither 0 nor 1
abbrev TwoOrEight : ℕ → Type 0
TwoOrEight k = (k ≡ 2) ⊎ (k ≡ 8)

two_or_more : (k : ℕ) → TwoOrEight k → 2 ≤ k
two_or_more k (inl e) = omega arith
two_or_more k (inr e) = omega arith

module _ (s : List ℕ) where
  number_is : {t : Told} → take_of s ≡ t → (take_of s).number ≡ t.number
  number_is e = ap (λ (t : Told). t.number) e

  -- what is lacking tells 2 or 8
  lacking_number : TwoOrEight (number_of (lacking (length s) (size_of s)))
  lacking_number = by_lacking (length s) (size_of s) (λ why. TwoOrEight (number_of why)) (λ f h. inl refl) (inr refl)

  -- 1
  pub one_exactly : TooFew s
  one_exactly = (says, whole_short s _ _) where
    says : take_of s ≡ refusal Refusal.TooFewBytes → length s < 16
    says e =
        elim (front s) [
          | short h ↦ h
          | cut h g ↦ absurd (let z = sym (number_is (whole_cut s _ _ h g)) ∙ number_is e in omega (arith, two_or_more _ lacking_number))
          | whole h ↦ absurd (let z = sym (number_is (whole_took s _ _ h)) ∙ number_is e in omega arith)
        ]

  -- 2 or 8
  cut_says : 2 ≤ (take_of s).number → (16 ≤ length s) × (length s < size_of s)
  cut_says l =
      elim (front s) [
        | short h ↦ absurd (let z = number_is (whole_short s _ _ h) in omega arith)
        | cut h g ↦ (h, g)
        | whole h ↦ absurd (let z = number_is (whole_took s _ _ h) in omega arith)
      ]

  pub either_exactly : CutEither s
  either_exactly =
      ((λ e. cut_says (two_or_more _ e)), (λ h. rw (number_is (whole_cut s _ _ h.0 h.1)) lacking_number))

  -- a refusal from 2 on is what is lacking
  lacking_is : (why : Refusal) → 2 ≤ number_of why → take_of s ≡ refusal why → (16 ≤ length s) × (length s < size_of s) × (lacking (length s) (size_of s) ≡ why)
  lacking_is why l e =
      let c = cut_says (rw (number_is e) l) in
      (c.0, c.1, told_one _ why (sym (whole_cut s _ _ c.0 c.1) ∙ e))

  -- 2 with row f
  pub two_exactly : (f : ℕ) → CutWithRow s f
  two_exactly f = (
    (λ e. let c = lacking_is (Refusal.FieldCut f) (omega arith) e in (c.0, (row_exactly _ _ f).0 c.2)),
    (λ h.
        let w = h.1 in
        whole_cut s _ _ h.0 (omega (arith, w.held, w.past)) ∙ ap refusal ((row_exactly _ _ f).1 w)),
  )

  -- from 4 to 14
  pub rows_from_4 : (f : ℕ) → RowsFrom4 s f
  rows_from_4 f e =
      let c = (two_exactly f).0 e in
      (row_from_4 _ _ f c.0 c.1, omega (arith, c.1.row))

  -- no call that goes by a whole record carries more
  pub carried_most : (take_of s).carried ≤ 14
  carried_most =
      elim (front s) [
        | short h ↦ rw (whole_short s _ _ h) (lit≤ tt)
        | cut h g ↦ rw (whole_cut s _ _ h g) (by_lacking (length s) (size_of s) (λ why. carried_by why ≤ 14) (λ f l. omega arith) (lit≤ tt))
        | whole h ↦ rw (whole_took s _ _ h) (lit≤ tt)
      ]

  -- 8
  pub eight_exactly : CutBehind s
  eight_exactly = (
    (λ e. let c = lacking_is Refusal.UndecodedCut (omega arith) e in (c.0, c.1, (none_exactly _ _).0 c.2)),
    (λ h. whole_cut s _ _ h.0 h.1 ∙ ap refusal ((none_exactly _ _).1 h.2)),
  )
