-- What is lacking of a record: the first field that is cut, or only undecoded bytes. Assumes nothing.
use Prim.Native.Nat.{ℕ, ◌≤◌, ◌<◌}
use mathlib.Core.Path.{◌≡◌, sym, ap, subst, ◌∙◌}
use mathlib.Core.Bool.{true, false, true≢false}
use native.Mathlib.Omega.{arith}
use native.Mathlib.Decide.{dec_le}
use lib.Dec.{leb, ltb}
use borrow.Author.Tests.{le-leb, lt-leb, lt-ltb, leb-true, ltb-true}
use Rattle.answers.specs.declared.Refusal.{Refusal}
use Rattle.answers.specs.Numbers.{number_of, carried_by}
use Rattle.laws.proofs.Below.{in_row}
use Rattle.laws.proofs.Least.{NoneBelow, Least, look, found, unfound, least_is, least_none}
use Rattle.laws.proofs.Tests.{and_both, not_yes}
use Rattle.record.specs.Table.{end_of}
use Rattle.reading.specs.Cut.{cut_at, lacking, FirstCut, NoneCut, LacksField, LacksUndecoded}

module _ (n size : ℕ) where
  -- the two tests of a field that ends at e, one after the other
  pub test_past : (f e : ℕ) → e ≡ end_of f → e ≤ size → ltb n e ≡ cut_at n size f
  test_past f e p h = rw (← p, le-leb e size h)

  pub test_held : (f e : ℕ) → e ≡ end_of f → size < e → leb e size ≡ cut_at n size f
  test_held f e p h = rw (← p, lt-leb e size h)

  -- a field that is cut
  pub cut_yes : (f : ℕ) → end_of f ≤ size → n < end_of f → cut_at n size f ≡ true
  cut_yes f h g = rw (le-leb (end_of f) size h, lt-ltb n (end_of f) g)

  cut_says : (f : ℕ) → cut_at n size f ≡ true → (end_of f ≤ size) × (n < end_of f)
  cut_says f e = let b = and_both e in (leb-true (end_of f) size b.0, ltb-true n (end_of f) b.1)

  -- and one that isn't
  pub cut_no : (f : ℕ) → (end_of f ≤ size → n < end_of f → ⊥) → cut_at n size f ≡ false
  cut_no f d = not_yes (cut_at n size f) (λ e. let b = cut_says f e in d b.0 b.1)

  within : (f : ℕ) → cut_at n size f ≡ false → end_of f ≤ size → end_of f ≤ n
  within f e h =
      elim (dec_le (end_of f) n) [
        | yes g ↦ g
        | no g ↦ absurd (true≢false (sym (cut_yes f h (omega arith)) ∙ e))
      ]

  -- the refusal by the least row, and where there is none
  pub lacking_row : (f : ℕ) → f < 15 → Least (cut_at n size) f → lacking n size ≡ Refusal.FieldCut f
  unfolding lacking
  lacking_row f h l = rw (least_is 15 (cut_at n size) f h l, lt-ltb f 15 h)

  pub lacking_none : NoneBelow (cut_at n size) 15 → lacking n size ≡ Refusal.UndecodedCut
  unfolding lacking
  lacking_none h = rw (least_none 15 (cut_at n size) h)

  -- what lacks of n bytes
  pub data Lacks : Type 0 where
    field : (f : ℕ) → FirstCut n size f → lacking n size ≡ Refusal.FieldCut f → Lacks
    undecoded : NoneCut n size → lacking n size ≡ Refusal.UndecodedCut → Lacks

  pub lacks : Lacks
  lacks =
      elim (look 15 (cut_at n size)) [
        | found f h l ↦
            let b = cut_says f l.holds in
            Lacks.field f (record { row = h; held = b.0; past = b.1; first = λ g k. within g (l.first g k) }) (lacking_row f h l)
        | unfound none ↦ Lacks.undecoded (λ f h. within f (none f h)) (lacking_none none)
      ]

  -- the row is that of the first field that is cut
  pub row_exactly : (f : ℕ) → LacksField n size f
  row_exactly f = (says, (λ w. lacking_row f w.row (least w))) where
    least : FirstCut n size f → Least (cut_at n size) f
    least w = record { holds = cut_yes f w.held w.past; first = λ g k. cut_no g (λ h past. let e = w.first g k h in omega arith) }

    says : lacking n size ≡ Refusal.FieldCut f → FirstCut n size f
    says e =
        elim lacks [
          | field g w p ↦ subst (FirstCut n size) (ap carried_by (sym p ∙ e)) w
          | undecoded h p ↦ absurd (let z = ap number_of (sym p ∙ e) in omega arith)
        ]

  -- and there is none exactly where no field is
  pub none_exactly : LacksUndecoded n size
  none_exactly = (says, (λ h. lacking_none (λ f k. cut_no f (λ held past. let e = h f k held in omega arith)))) where
    says : lacking n size ≡ Refusal.UndecodedCut → NoneCut n size
    says e =
        elim lacks [
          | field g w p ↦ absurd (let z = ap number_of (sym p ∙ e) in omega arith)
          | undecoded h p ↦ h
        ]

  -- what holds of 2 with any of the rows, and of 8, holds of what is lacking
  pub by_lacking : (P : Refusal → Type 0) → ((f : ℕ) → f < 15 → P (Refusal.FieldCut f)) → P Refusal.UndecodedCut → P (lacking n size)
  by_lacking P rows behind =
      elim lacks [
        | field f w p ↦ rw p (rows f w.row)
        | undecoded h p ↦ rw p behind
      ]

-- the first four fields end within 16
ends_early : (f : ℕ) → f < 4 → end_of f ≤ 16
ends_early f h = leb-true (end_of f) 16 (in_row 4 (λ g. leb (end_of g) 16) tt f h)

-- so with 16 bytes there no row is below 4
pub row_from_4 : (n size f : ℕ) → 16 ≤ n → FirstCut n size f → 4 ≤ f
row_from_4 n size f h w =
    elim (dec_le 4 f) [
      | yes l ↦ l
      | no l ↦ absurd (let e = ends_early f (omega arith) in omega (arith, w.past))
    ]
