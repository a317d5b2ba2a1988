-- A record's line for readers of two ages. Assumes nothing.
use Prim.Native.Nat.{ℕ, ◌≤◌, ◌<◌}
use mathlib.Core.Path.{◌≡◌, refl, sym, ap, ◌∙◌}
use mathlib.Core.Bool.{true, cond, ◌||◌}
use mathlib.Core.List.{List}
use native.Mathlib.Omega.{arith}
use native.Mathlib.Decide.{dec_le}
use lib.Dec.{ltb, leb}
use borrow.Author.Tests.{le-ltb, lt-ltb, leb-true}
use Rattle.laws.proofs.Tests.{or_second}
use Rattle.laws.proofs.Below.{each_at}
use Rattle.record.specs.Ages.{default_age}
use Rattle.record.specs.Table.{start_of, end_of, width_of, part, all_zero}
use Rattle.reading.specs.Reading.{taken}
use Rattle.mark.specs.declared.Mark.{Mark}
use Rattle.mark.proofs.Words.{chosen_other}
use Rattle.marking.specs.Marks.{mark_between, mark_of}
use Rattle.marking.proofs.HeldBack.{held_exactly, unheld_zero}
use Rattle.marking.proofs.TwoAges.{same_mark, unheld_both}
use Rattle.lines.specs.TwoAges.{OlderMarks, LastThree, SameText, OlderHolds}

-- a field past the age is unknown
past_unknown : (a : ℕ) (s : List ℕ) (f : ℕ) → ltb a (end_of f) ≡ true → mark_of a s f ≡ Mark.Unknown
unfolding mark_between
past_unknown a s f e = rw (e)

pub older_marks : OlderMarks
older_marks older newer s r f =
    elim (dec_le (end_of f) older) [
      | yes g ↦ rw (le-ltb older (end_of f) g) (same_mark older newer s r f g)
      | no g ↦ let e = lt-ltb older (end_of f) (omega arith) in past_unknown older s f e ∙ ap (λ b. cond b Mark.Unknown (mark_of newer s f)) (sym e)
    ]

-- a field that isn't past the age is known
within_known : (a : ℕ) (s : List ℕ) (f : ℕ) → end_of f ≤ a → mark_of a s f ≡ Mark.Unknown → ⊥
unfolding mark_between
within_known a s f h e =
    chosen_other Mark.Unknown Mark.Absent Mark.Blank Mark.Filled (ltb (taken s) (end_of f)) (all_zero (part s (start_of f) (width_of f))) tt tt tt (simp (le-ltb a (end_of f) h) at e)

-- the fields before 12 end at the default age or before it, and no others
first_twelve : (f : ℕ) → f < 12 → end_of f ≤ default_age
first_twelve f h = leb-true (end_of f) default_age (each_at 12 (λ k. leb (end_of k) default_age) refl f h)

from_twelve : (f : ℕ) → 12 ≤ f → f < 15 → ltb default_age (end_of f) ≡ true
from_twelve f l h =
    or_second (ltb f 12) (ltb default_age (end_of f)) (each_at 15 (λ k. ltb k 12 || ltb default_age (end_of k)) refl f h) (le-ltb f 12 l)

pub last_three : LastThree
last_three s f l h = (
  (λ e. elim (dec_le 12 f) [
    | yes g ↦ g
    | no g ↦ absurd (within_known default_age s f (first_twelve f (omega arith)) e)
  ]),
  (λ g. past_unknown default_age s f (from_twelve f g (omega arith))),
)

pub same_text : SameText
same_text older newer s r g h whole e i p =
    let both = unheld_both older newer s r g h whole e in
    (rw (e, both.1), rw (both.0, both.2))

pub older_holds : OlderHolds
older_holds older newer s e = (
  (λ t.
      let w = (held_exactly older s).0 t in
      elim (dec_le newer w.offset) [
        | yes g ↦ absurd (w.found (unheld_zero newer s e w.offset g w.within))
        | no g ↦ record { offset = w.offset; late = w.late; known = omega arith; within = w.within; found = w.found }
      ]),
  (λ w. (held_exactly older s).1 (record { offset = w.offset; late = w.late; within = w.within; found = w.found })),
)
