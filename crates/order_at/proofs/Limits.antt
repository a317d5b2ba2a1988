-- How far a record at an offset is read. Assumes nothing.
use Prim.Native.Nat.{ℕ, ◌≤◌, min}
use mathlib.Core.Path.{◌≡◌, sym, ap, ◌∙◌}
use mathlib.Core.List.{List}
use native.Mathlib.Omega.{arith}
use lib.ListN.{length, drop, length-drop}
use Rattle.reading.specs.Reading.{ParseOutcome, record_by, field_by, taken}
use Rattle.reading.proofs.Limits.{aged_is, aged_plain}
use Rattle.reading.proofs.Whole.{front, short, cut, whole, whole_short, whole_cut, whole_took}
use Rattle.order_at.specs.OrderAt.{plain_at}
use Rattle.order_at.specs.Apart.{read_within, Limit}

module _ (s : List ℕ) (p : ℕ) where
  blank_read : (taken (drop p s) ≤ length (drop p s) → ⊥) → plain_at s p ≡ read_within 0 (drop p s)
  unfolding plain_at record_by field_by
  blank_read n =
      elim (front (drop p s)) [
        | short h ↦ ap (λ (o : ParseOutcome). o.gives) (whole_short (drop p s) _ _ h)
        | cut h g ↦ ap (λ (o : ParseOutcome). o.gives) (whole_cut (drop p s) _ _ h g)
        | whole h ↦ absurd (n h)
      ]

  -- where no whole record stands, no field is read
  pub none_read : (taken (drop p s) ≤ length (drop p s) → ⊥) → Limit s p 0
  none_read n = record { most = omega arith; there = omega arith; reads = blank_read n }

  -- a whole record is read to the lesser of T and 64
  pub whole_read : (l : ℕ) → taken (drop p s) ≤ length (drop p s) → l ≡ min (taken (drop p s)) 64 → Limit s p l
  unfolding plain_at
  whole_read l h e =
      record {
        most = omega arith;
        there = omega (arith, length-drop p s);
        reads =
            ap (λ (o : ParseOutcome). o.gives) (whole_took (drop p s) _ _ h)
            ∙ sym (aged_plain (drop p s))
            ∙ aged_is 64 (drop p s)
            ∙ ap (λ (k : ℕ). read_within k (drop p s)) (sym e);
      }
