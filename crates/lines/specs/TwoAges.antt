-- 02, K7: a record's line for readers of two ages, and what the default age leaves unknown. Assumes nothing.
use Rattle.std.specs.Prelude.{ℕ, ◌≤◌, ◌<◌, ◌≡◌, true, false, cond, List, ◌↔◌, ltb, length, get_or}
use Rattle.record.specs.Ages.{is_age, default_age}
use Rattle.record.specs.Table.{end_of}
use Rattle.reading.specs.Reading.{plain, size_of, taken}
use Rattle.mark.specs.declared.Mark.{Mark}
use Rattle.marking.specs.Marks.{mark_of, marks_of, held_back}
use Rattle.locale.specs.Subtags.{text_replacements}
use Rattle.places.specs.Places.{text_of}
use Rattle.record_line.specs.RecordLine.{laid_out, record_line, shown_words}

-- for the older reader the mark of a field that ends past its age is U; every other mark is what the newer one has
abbrev pub OlderMarks : Type 0
OlderMarks = (older newer : ℕ) (s : List ℕ) → older ≤ newer → (f : ℕ) → mark_of older s f ≡ cond (ltb older (end_of f)) Mark.Unknown (mark_of newer s f)

-- at the default age the last three marks are U, whatever the record, and no other is
abbrev pub LastThree : Type 0
LastThree = (s : List ℕ) (f : ℕ) → 1 ≤ f → f ≤ 14 → (mark_of default_age s f ≡ Mark.Unknown) ↔ (12 ≤ f)

-- the line of the record at the front of s with its plain text and the replacements of that, and with the marks for a reader of age a
abbrev pub shown_line : ℕ → ℕ → ℕ → List ℕ → List ℕ
shown_line a i p s = laid_out i p (size_of s) (marks_of a s) (shown_words (text_of (plain s))) (text_replacements (plain s))

-- a whole record that the older reader doesn't hold back has, for both, the line with its plain text: only the marks go by the age
abbrev pub SameText : Type 0
SameText =
    (older newer : ℕ) (s : List ℕ) → older ≤ newer → is_age older ≡ true → is_age newer ≡ true → taken s ≤ length s → held_back older s ≡ false
    → (i p : ℕ) → (record_line older i p s ≡ shown_line older i p s) × (record_line newer i p s ≡ shown_line newer i p s)

-- a byte of the record that the newer reader knows and the older doesn't, and that isn't zero: its offset
pub record Between (older newer : ℕ) (s : List ℕ) : Type 0 where
  pub offset : ℕ
  pub late : older ≤ offset
  pub known : offset < newer
  pub within : offset < taken s
  pub found : get_or s offset 0 ≡ 0 → ⊥

-- of what the newer reader shows, the older holds back exactly the records that have such a byte
abbrev pub OlderHolds : Type 0
OlderHolds = (older newer : ℕ) (s : List ℕ) → held_back newer s ≡ false → (held_back older s ≡ true) ↔ Between older newer s
