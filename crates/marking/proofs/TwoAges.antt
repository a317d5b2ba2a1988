-- Two ages, one not past the other: fields that both readers know have the same mark, and what the first shows the second shows
-- too, as the plain reading. Assumes nothing.
use Prim.Native.Nat.{ℕ, ◌+◌, ◌≤◌, ◌<◌}
use mathlib.Core.Path.{◌≡◌, refl, sym, ◌∙◌}
use mathlib.Core.Bool.{true, false, ◌||◌}
use mathlib.Core.List.{List}
use native.Mathlib.Omega.{arith}
use native.Mathlib.Decide.{dec_le}
use lib.Dec.{leb}
use lib.ListN.{length, replicate, length-replicate, get_or-replicate, length-drop}
use lib.Seq.{ext_get_or, get_or-take, get_or-drop, length-take-le}
use borrow.Author.Tests.{le-leb, lt-leb, le-ltb, leb-true}
use Rattle.laws.specs.Below.{each_below}
use Rattle.laws.proofs.Tests.{not_yes, or_second}
use Rattle.laws.proofs.Below.{each_at}
use Rattle.record.specs.Ages.{is_age}
use Rattle.record.specs.Table.{part, start_of, end_of, width_of}
use Rattle.record.proofs.Twelve.{test_ages}
use Rattle.reading.specs.Reading.{reads, reads_at, field_by, plain, aged, size_of, taken}
use Rattle.reading.proofs.FieldBytes.{record_fields}
use Rattle.reading.proofs.Limits.{reads_is, start_end}
use Rattle.marking.specs.Marks.{mark_between, mark_of, held_back}
use Rattle.marking.proofs.HeldBack.{held_exactly, unheld_zero}

-- the marks of a field that both know
pub same_mark : (a b : ℕ) (s : List ℕ) → a ≤ b → (f : ℕ) → end_of f ≤ a → mark_of a s f ≡ mark_of b s f
unfolding mark_between
same_mark a b s r f h = let g : end_of f ≤ b = omega arith in rw (le-ltb a (end_of f) h, le-ltb b (end_of f) g)

-- what isn't held back at an age isn't held back at a later one
pub unheld_later : (a b : ℕ) (s : List ℕ) → a ≤ b → held_back a s ≡ false → held_back b s ≡ false
unheld_later a b s r e =
    not_yes (held_back b s) (λ t. let w = (held_exactly b s).0 t in w.found (unheld_zero a s e w.offset (omega (arith, w.late)) w.within))

-- an age cuts no field in two
pub age_cuts_none : (a f : ℕ) → is_age a ≡ true → f < 15 → a < end_of f → a ≤ start_of f
age_cuts_none a f g h l =
    let all = test_ages (λ n. each_below 15 (λ k. leb (end_of k) n || leb n (start_of k))) refl a g in
    let one = each_at 15 (λ k. leb (end_of k) a || leb a (start_of k)) all f h in
    leb-true a (start_of f) (or_second (leb (end_of f) a) (leb a (start_of f)) one (lt-leb (end_of f) a l))

module _ (a : ℕ) (s : List ℕ) (age : is_age a ≡ true) (whole : taken s ≤ length s) (unheld : held_back a s ≡ false) where
  -- a field that the reader doesn't know is zero
  blank_field : (f : ℕ) → f < 15 → a < end_of f → end_of f ≤ taken s → part s (start_of f) (width_of f) ≡ replicate (width_of f) 0
  blank_field f h l t =
      let b = age_cuts_none a f age h l in
      let o = start_end f h in
      let n : length (part s (start_of f) (width_of f)) ≡ width_of f = length-take-le (width_of f) _ (rw (length-drop (start_of f) s) (omega arith)) in
      ext_get_or 0 _ _ (n ∙ sym (length-replicate (width_of f) 0)) (λ i k.
      let w : i < width_of f = omega (arith, n) in
      get_or-take (width_of f) _ i 0 w ∙ get_or-drop (start_of f) s i 0 ∙ unheld_zero a s unheld (start_of f + i) (omega arith) (omega arith)
      ∙ sym (get_or-replicate (width_of f) i 0 0 w))

  same_field : (f : ℕ) → f < 15 → field_by (reads_at a (size_of s)) s f ≡ field_by (reads (size_of s)) s f
  unfolding field_by
  same_field f h =
      elim (dec_le (end_of f) a) [
        | yes g ↦ rw (le-leb (end_of f) a g)
        | no g ↦ let l : a < end_of f = omega arith in
            rw (lt-leb (end_of f) a l, reads_is f (size_of s) h) (elim (dec_le (end_of f) (taken s)) [
              | yes t ↦ rw (le-leb (end_of f) (taken s) t) (sym (blank_field f h l t))
              | no t ↦ let u : taken s < end_of f = omega arith in rw (lt-leb (end_of f) (taken s) u)
            ])
      ]

  -- the reading at an age of a whole record that isn't held back is the plain one
  pub unheld_plain : aged a s ≡ plain s
  unfolding aged plain
  unheld_plain = record_fields _ _ s s same_field

-- so two readers, the first of whom doesn't hold the record back, read the same
pub unheld_both : (a b : ℕ) (s : List ℕ) → a ≤ b → is_age a ≡ true → is_age b ≡ true → taken s ≤ length s → held_back a s ≡ false
    → (held_back b s ≡ false) × (aged a s ≡ plain s) × (aged b s ≡ plain s)
unheld_both a b s r g h whole e =
    let l = unheld_later a b s r e in (l, unheld_plain a s g whole e, unheld_plain b s h whole l)
