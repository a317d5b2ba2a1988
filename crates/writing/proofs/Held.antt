-- A field that is read at the record's size, or is zero. Assumes nothing.
use Prim.Native.Nat.{ℕ, ◌≤◌, ◌<◌}
use mathlib.Core.Path.{◌≡◌, sym, ap, ◌∙◌}
use mathlib.Core.Bool.{Bool, true, false, not, ◌||◌, or-true}
use mathlib.Core.List.{List}
use lib.Dec.{leb}
use lib.ListN.{take}
use borrow.Author.Tests.{le-leb, lt-leb, leb-true}
use Rattle.laws.proofs.Below.{in_row}
use Rattle.record.specs.Table.{all_zero, end_of, width_of}
use Rattle.record.specs.declared.ResTableConfig.{ResTableConfig}
use Rattle.reading.specs.Reading.{reads}
use Rattle.reading.proofs.Limits.{reads_is}
use Rattle.marking.specs.Marks.{late_bytes}
use Rattle.writing.specs.Writing.{bytes_of, keeps, span}

-- no field has more than eight bytes
pub width_most : (f : ℕ) → f < 15 → width_of f ≤ 8
width_most f h = leb-true (width_of f) 8 (in_row 15 (λ g. leb (width_of g) 8) tt f h)

not_back : (b c : Bool) → c ≡ not b → b ≡ not c
not_back true c e = ap not (sym e)
not_back false c e = ap not (sym e)

module _ (r : ResTableConfig) (t f : ℕ) (e : t ≡ span r) (h : f < 15) where
  -- T bytes hold the field, and don't
  pub read_at : end_of f ≤ t → reads r.size f ≡ true
  read_at g = reads_is f r.size h ∙ ap (leb (end_of f)) (sym e) ∙ le-leb (end_of f) t g

  pub unread_at : t < end_of f → reads r.size f ≡ false
  unread_at g = reads_is f r.size h ∙ ap (leb (end_of f)) (sym e) ∙ lt-leb (end_of f) t g

  pub held_is : end_of f ≤ t → keeps r f ≡ true
  held_is g = ap (λ (b : Bool). b || all_zero (bytes_of r f)) (read_at g)

  -- the search for a byte that isn't zero, in the field's own bytes x
  module _ (x : List ℕ) (own : take (width_of f) x ≡ bytes_of r f) (late : Bool) (found : late ≡ late_bytes x (width_of f) 0) where
    tested : all_zero (bytes_of r f) ≡ not late
    tested = ap all_zero (sym own) ∙ not_back (all_zero (take (width_of f) x)) late found

    pub zero_is : late ≡ false → keeps r f ≡ true
    zero_is z = ap (λ (b : Bool). reads r.size f || b) (tested ∙ ap not z) ∙ or-true (reads r.size f)

    pub neither_is : t < end_of f → late ≡ true → keeps r f ≡ false
    neither_is g z = ap (λ (b : Bool). b || all_zero (bytes_of r f)) (unread_at g) ∙ tested ∙ ap not z
