-- The cases of a mark, and the marks one by one. Assumes nothing.
use Prim.Native.Nat.{ℕ, ◌+◌, ◌*◌, ◌-◌, ◌≤◌, ◌<◌}
use mathlib.Core.Path.{◌≡◌, refl, sym, ap, ◌∙◌}
use mathlib.Core.Bool.{not, cond}
use mathlib.Core.List.{List, [], ◌∷◌, map}
use native.Mathlib.Omega.{arith}
use native.Mathlib.Decide.{dec_le}
use lib.Dec.{eqb, leb, ltb}
use lib.ListN.{length, get_or, drop}
use borrow.Author.Tests.{eqb-true, lt-ltb, le-ltb, le-leb, lt-leb}
use Rattle.laws.proofs.Choice.{cond_not}
use Rattle.laws.proofs.Below.{in_row}
use Rattle.laws.proofs.Lists.{mapped_at}
use Rattle.mark.specs.declared.Mark.{Mark}
use Rattle.mark.specs.Word.{letter_of, bits_of, in_one_word}
use Rattle.mark.proofs.Words.{word_room, word_turn}
use Rattle.mark.proofs.Letters.{letters_length, letters_are}
use Rattle.record.specs.Table.{part, all_zero, start_of, end_of}
use Rattle.reading.specs.Reading.{reads, size_of, taken}
use Rattle.reading.proofs.Limits.{reads_is}
use Rattle.marking.specs.Marks.{mark_between, mark_in, word_in, letters_in, late_bytes}
use Rattle.marking.proofs.Zeros.{drop_take}

module _ (a t : ℕ) (s : List ℕ) (start end : ℕ) where
  -- its end is past a
  pub mark_unknown : a < end → Mark.Unknown ≡ mark_between a t s start end
  unfolding mark_between
  mark_unknown h = simp (lt-ltb a end h)

  module _ (h : end ≤ a) where
    -- the record doesn't hold it
    pub mark_absent : t < end → Mark.Absent ≡ mark_between a t s start end
    unfolding mark_between
    mark_absent g = simp (le-ltb a end h, lt-ltb t end g)

    -- the record holds it: one of its bytes isn't zero, or all are
    pub mark_held : end ≤ t → cond (late_bytes s end start) Mark.Filled Mark.Blank ≡ mark_between a t s start end
    unfolding mark_between
    mark_held g =
        simp (le-ltb a end h, le-ltb t end g, drop_take start end s) (cond_not (all_zero (part s start (end - start))) Mark.Filled Mark.Blank)

-- of a whole record, "doesn't hold it" is "doesn't read it"
pub absent_unread : (s : List ℕ) (f : ℕ) → f < 15 → ltb (taken s) (end_of f) ≡ not (reads (size_of s) f)
absent_unread s f h = ltb_leb (taken s) (end_of f) ∙ ap not (sym (reads_is f (size_of s) h)) where
  ltb_leb : (t e : ℕ) → ltb t e ≡ not (leb e t)
  ltb_leb t e =
      elim (dec_le e t) [
        | yes g ↦ rw (le-ltb t e g, le-leb e t g)
        | no g ↦ let l : t < e = omega arith in rw (lt-ltb t e l, lt-leb e t l)
      ]

-- a field starts where the one before it ends
pub mark_there : (a t : ℕ) (s : List ℕ) (f : ℕ) → 0 < f → f ≤ 14 → mark_between a t s (end_of (f - 1)) (end_of f) ≡ mark_in a t s f
mark_there a t s f l u =
    let e : f - 1 + 1 ≡ f = omega arith in
    let row = in_row 14 (λ g. eqb (end_of g) (start_of (g + 1))) tt (f - 1) (omega arith) in
    ap (λ (start : ℕ). mark_between a t s start (end_of f)) (eqb-true (end_of (f - 1)) (start_of (f - 1 + 1)) row ∙ ap start_of e)

-- the fields that are marked
abbrev pub fields : List ℕ
fields = 1 ∷ 2 ∷ 3 ∷ 4 ∷ 5 ∷ 6 ∷ 7 ∷ 8 ∷ 9 ∷ 10 ∷ 11 ∷ 12 ∷ 13 ∷ 14 ∷ []

-- their marks
abbrev pub marks_from : ℕ → ℕ → List ℕ → List Mark
marks_from a t s = map (mark_in a t s) fields

-- mark i, from 0, is that of field i + 1
pub field_mark : (a t : ℕ) (s : List ℕ) (i : ℕ) → i < 14 → get_or (marks_from a t s) i Mark.Absent ≡ mark_in a t s (i + 1)
field_mark a t s i h =
    mapped_at (mark_in a t s) fields i 0 Mark.Absent h
    ∙ ap (mark_in a t s) (eqb-true (get_or fields i 0) (i + 1) (in_row 14 (λ j. eqb (get_or fields j 0) (j + 1)) tt i h))

-- the word of the fields behind f has room for one more mark, which is f's
module _ (a t : ℕ) (s : List ℕ) (f word : ℕ) (l : 0 < f) (u : f ≤ 14) (e : word ≡ in_one_word (drop f (marks_from a t s))) where
  back : f - 1 + 1 ≡ f
  back = omega arith

  behind : word ≡ in_one_word (drop (f - 1 + 1) (marks_from a t s))
  behind = e ∙ ap (λ (k : ℕ). in_one_word (drop k (marks_from a t s))) (sym back)

  pub field_room : word < 67108864
  field_room = word_room (marks_from a t s) (f - 1) word (omega arith) behind (omega arith)

  pub field_turn : (bits : ℕ) → bits ≡ bits_of (mark_in a t s f) → word * 4 + bits ≡ in_one_word (drop (f - 1) (marks_from a t s))
  field_turn bits b =
      let mark : get_or (marks_from a t s) (f - 1) Mark.Absent ≡ mark_in a t s f = field_mark a t s (f - 1) (omega arith) ∙ ap (mark_in a t s) back in
      ap (λ (n : ℕ). word * 4 + n) (b ∙ sym (ap bits_of mark)) ∙ word_turn (marks_from a t s) (f - 1) word (omega arith) behind

-- fourteen letters
pub marks_length : (a t : ℕ) (s : List ℕ) → length (letters_in a t s) ≡ 14
unfolding letters_in
marks_length a t s = letters_length (word_in a t s)

-- letter i, from 0, is that of field i + 1
pub mark_at : (a t : ℕ) (s : List ℕ) (i : ℕ) → i < 14 → get_or (letters_in a t s) i 0 ≡ letter_of (mark_in a t s (i + 1))
unfolding letters_in word_in
mark_at a t s i h =
    ap (λ (l : List ℕ). get_or l i 0) (letters_are (marks_from a t s) refl) ∙ mapped_at letter_of (marks_from a t s) i Mark.Absent 0 h
    ∙ ap letter_of (field_mark a t s i h)
