-- 02, K8: what is claimed of a record's marks in one word. Assumes nothing.
use Rattle.std.specs.Prelude.{ℕ, ◌-◌, ◌^◌, ◌≤◌, ◌<◌, ◌≡◌, true, List, ◌↔◌}
use Rattle.buffer.specs.Written.{refused}
use Rattle.mark.specs.Word.{bits_of, letters_outcome}
use Rattle.mark.specs.Demand1.{TopBit}
use Rattle.mark.specs.Claims.{bits_at}
use Rattle.record.specs.Ages.{is_age}
use Rattle.record.specs.Table.{end_of}
use Rattle.reading.specs.Reading.{if_whole, if_age}
use Rattle.marking.specs.Marks.{mark_of, word_of, word_told, marks_outcome}

-- the top four bits are zero: no bit from 28 up is set
abbrev pub TopFourZero : Type 0
TopFourZero = (a : ℕ) (s : List ℕ) → (word_of a s < 2 ^ 28) × (TopBit (word_of a s) → ⊥)

-- field f, from 1, has its two bits at its place
abbrev pub BitsOfField : Type 0
BitsOfField = (a : ℕ) (s : List ℕ) (f : ℕ) → 1 ≤ f → f ≤ 14 → bits_at (word_of a s) (f - 1) ≡ bits_of (mark_of a s f)

-- the word fixes the marks, and the marks the word, whatever the two ages and the two records are
abbrev pub WordFixesMarks : Type 0
WordFixesMarks =
    (a b : ℕ) (s t : List ℕ) → (word_of a s ≡ word_of b t) ↔ ((f : ℕ) → 1 ≤ f → f ≤ 14 → mark_of a s f ≡ mark_of b t f)

-- writing the marks is writing the letters of the word that is given: no word that is given is refused with 12
abbrev pub LettersOfWord : Type 0
LettersOfWord =
    (a : ℕ) (s old : List ℕ)
    → marks_outcome a s old ≡ if_age a (λ why. refused why old) (if_whole s (λ why. refused why old) (letters_outcome (word_of a s) old))

-- demand 3's "equal marks", of the bits: for two of the twelve ages, fields that both know have equal bits in what is told of any bytes,
-- so of each record of a run and of each in a chunk
abbrev pub EqualBits : Type 0
EqualBits =
    (older newer : ℕ) (s : List ℕ) → older ≤ newer → is_age older ≡ true → is_age newer ≡ true → (f : ℕ) → 1 ≤ f → f ≤ 14 → end_of f ≤ older
    → bits_at (word_told older s).amount (f - 1) ≡ bits_at (word_told newer s).amount (f - 1)
