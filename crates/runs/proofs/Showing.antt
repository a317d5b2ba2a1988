-- What the calls return of a whole record, for readers of two ages. Assumes nothing.
use Prim.Native.Nat.{ℕ, ◌+◌, ◌-◌, ◌≤◌, ◌<◌}
use mathlib.Core.Path.{◌≡◌, refl, sym, ap, ◌∙◌}
use mathlib.Core.Bool.{Bool, true, false, cond}
use mathlib.Core.List.{List}
use native.Mathlib.Omega.{arith}
use lib.ListN.{length, get_or, drop, get_or-append}
use borrow.Author.Tests.{ltb-false}
use Rattle.answers.specs.declared.Refusal.{Refusal}
use Rattle.buffer.specs.Written.{Outcome, written, wrote, refused}
use Rattle.buffer.proofs.Writing.{written_fits}
use Rattle.record.specs.Ages.{is_age}
use Rattle.record.specs.Table.{end_of}
use Rattle.reading.specs.Reading.{ParseOutcome, parse_of, plain, aged, taken}
use Rattle.reading.proofs.Whole.{whole_took, age_known}
use Rattle.mark.specs.Word.{letter_of}
use Rattle.marking.specs.Marks.{marks_outcome, marks_of, mark_of, held_back}
use Rattle.marking.proofs.Marking.{marks_length, mark_at}
use Rattle.marking.proofs.TwoAges.{same_mark, unheld_later}
use Rattle.marking.proofs.HeldBack.{held_exactly, unheld_zero}
use Rattle.places.specs.Places.{text_of}
use Rattle.text.specs.Text.{plain_text, aged_text}
use Rattle.text.proofs.Exactly.{aged_exactly}
use Rattle.text.proofs.Same.{unheld_text}
use Rattle.record.specs.declared.ResTableConfig.{ResTableConfig}
use Rattle.runs.specs.Fronts.{StepOutcome}
use Rattle.runs.specs.Runs.{step_of}
use Rattle.runs.specs.Demand3.{Shows, ZeroFrom}
use Rattle.runs.proofs.Records.{front_whole, step_found}

module _ (t : List ℕ) (whole : taken t ≤ length t) where
  pub parse_plain : (parse_of t).gives ≡ plain t
  parse_plain = ap (λ (o : ParseOutcome). o.gives) (whole_took t _ _ whole)

  plain_is : (old : List ℕ) → plain_text t old ≡ written (text_of (plain t)) old
  plain_is old = whole_took t _ _ whole

  module _ (a : ℕ) (age : is_age a ≡ true) where
    marks_are : (old : List ℕ) → 14 ≤ length old → marks_outcome a t old ≡ wrote (marks_of a t) old
    marks_are old h = age_known a _ _ (sym age) ∙ whole_took t _ _ whole ∙ written_fits (marks_of a t) old (omega (arith, marks_length a (taken t) t))

    text_by : (old : List ℕ) (b : Bool) → held_back a t ≡ b → aged_text a t old ≡ cond b (refused Refusal.HeldBack old) (written (text_of (aged a t)) old)
    text_by old b e = age_known a _ _ (sym age) ∙ whole_took t _ _ whole ∙ rw e

    -- one that isn't held back is written as the plain text
    unheld_is : (old : List ℕ) → held_back a t ≡ false → aged_text a t old ≡ written (text_of (plain t)) old
    unheld_is old e = text_by old false e ∙ ap (λ (w : List ℕ). written w old) (unheld_text a t age whole e)

    -- the mark of field f where it is written
    mark_left : (old : List ℕ) → 14 ≤ length old → (f : ℕ) → 1 ≤ f → f ≤ 14 → get_or (marks_outcome a t old).leaves (f - 1) 0 ≡ letter_of (mark_of a t f)
    mark_left old h f l m =
        let e : f - 1 + 1 ≡ f = omega arith in
        let g : f - 1 < length (marks_of a t) = omega (arith, marks_length a (taken t) t) in
        ap (λ (o : Outcome). get_or o.leaves (f - 1) 0) (marks_are old h) ∙ get_or-append (marks_of a t) _ 0 (f - 1) g
        ∙ mark_at a (taken t) t (f - 1) (omega arith) ∙ ap (λ (g : ℕ). letter_of (mark_of a t g)) e

    -- a text that is shown: nothing is held back, and the text fits
    shows_fits : (old : List ℕ) → Shows (aged_text a t old) → (held_back a t ≡ false) × (length (text_of (plain t)) ≤ length old)
    shows_fits old e =
        let n = (aged_exactly a t old).exactly.succeeds.0 e in
        let h : held_back a t ≡ false = n.1.1.1.0 in
        (h, rw (unheld_text a t age whole h) at (ltb-false (length old) (length (text_of (aged a t))) n.1.1.1.1.0))

    -- a text that isn't held back and fits is written
    fits_wrote : (old : List ℕ) → held_back a t ≡ false → length (text_of (plain t)) ≤ length old → aged_text a t old ≡ wrote (text_of (plain t)) old
    fits_wrote old h l = unheld_is old h ∙ written_fits (text_of (plain t)) old l

    zero_unheld : ZeroFrom a t → held_back a t ≡ false
    zero_unheld z = by (held_back a t) refl where
      by : (b : Bool) → held_back a t ≡ b → held_back a t ≡ false
      by true h = absurd (let w = (held_exactly a t).0 h in w.found (z w.offset w.late w.within))
      by false h = h

    pub shows_zero : (old : List ℕ) → Shows (aged_text a t old) → ZeroFrom a t × (length (text_of (plain t)) ≤ length old)
    shows_zero old e = let f = shows_fits old e in (unheld_zero a t f.0, f.1)

    pub zero_shows : (old : List ℕ) → ZeroFrom a t → length (text_of (plain t)) ≤ length old → Shows (aged_text a t old)
    zero_shows old z l = rw (fits_wrote old (zero_unheld z) l)

    -- a text that is shown is the plain text
    pub shows_plain : (old : List ℕ) → Shows (aged_text a t old) → (aged_text a t old ≡ plain_text t old) × (plain_text t old ≡ wrote (text_of (plain t)) old)
    shows_plain old e =
        let f = shows_fits old e in
        let w = plain_is old ∙ written_fits (text_of (plain t)) old f.1 in
        (fits_wrote old f.0 f.1 ∙ sym w, w)

    -- for a byte that isn't zero it is refused
    pub byte_refuses : (old : List ℕ) (k : ℕ) → a ≤ k → k < taken t → (get_or t k 0 ≡ 0 → ⊥) → aged_text a t old ≡ refused Refusal.HeldBack old
    byte_refuses old k l m z = text_by old true ((held_exactly a t).1 (record { offset = k; late = l; within = m; found = z }))

  -- readers of two ages
  module _ (a b : ℕ) (rising : a ≤ b) (older : is_age a ≡ true) (newer : is_age b ≡ true) where
    pub same_marks : (m n : List ℕ) → 14 ≤ length m → 14 ≤ length n → (f : ℕ) → 1 ≤ f → f ≤ 14 → end_of f ≤ a
        → get_or (marks_outcome a t m).leaves (f - 1) 0 ≡ get_or (marks_outcome b t n).leaves (f - 1) 0
    same_marks m n h k f l u e = mark_left a older m h f l u ∙ ap letter_of (same_mark a b t rising f e) ∙ sym (mark_left b newer n k f l u)

    -- what the older shows the newer shows too
    pub newer_shows : (x y : List ℕ) → length x ≡ length y → Shows (aged_text a t x) → aged_text b t y ≡ wrote (text_of (plain t)) y
    newer_shows x y e s =
        let f = shows_fits a older x s in
        fits_wrote b newer y (unheld_later a b t rising f.0) (omega (arith, f.1))

-- the record that a step gives where a whole record stands
pub step_gives : (a : ℕ) (s : List ℕ) (p : ℕ) → is_age a ≡ true → taken (drop p s) ≤ length (drop p s) → (step_of a s p).gives ≡ aged a (drop p s)
step_gives a s p age whole =
    ap (λ (o : StepOutcome ResTableConfig). o.gives) (step_found a s (sym age) p (taken (drop p s)) (front_whole s p whole))
