-- When a text is shown, and when it is refused and with which number. Assumes nothing.
use Prim.Native.Nat.{ℕ}
use mathlib.Core.Path.{◌≡◌, refl}
use mathlib.Core.Bool.{true}
use mathlib.Core.List.{List, [], ◌∷◌}
use mathlib.Core.Logic.{◌↔◌}
use lib.Dec.{T, ltb}
use lib.ListN.{length}
use Rattle.answers.specs.declared.Refusal.{Refusal}
use Rattle.answers.specs.Tells.{refusal}
use Rattle.answers.specs.Demand1.{NoneOf}
use Rattle.answers.proofs.Exactly.{none_left, one_more, told_exactly, absent, refusal_exactly}
use Rattle.buffer.specs.Demand1.{shorter_than}
use Rattle.buffer.proofs.Exactly.{written_row, refuses_by}
use Rattle.reading.specs.Reading.{plain, aged, size_of}
use Rattle.reading.specs.Demand1.{fewer_than16, fewer_than_size, not_an_age}
use Rattle.reading.proofs.Cut.{by_lacking}
use Rattle.reading.proofs.Exactly.{whole_row, age_row}
use Rattle.marking.specs.Marks.{held_back}
use Rattle.marking.specs.Demand1.{is_held_back}
use Rattle.places.specs.Places.{text_of}
use Rattle.text.specs.Text.{aged_text}
use Rattle.text.specs.Demand1.{PlainTextRefuses, AgedTextRefuses, ReplacementsRefuse}

-- `plain_text`: 1, 2 or 8, 5
pub plain_exactly : (s old : List ℕ) → PlainTextRefuses s old
plain_exactly s old = refuses_by refl (whole_row s (written_row (text_of (plain s)) old))

-- `aged_text`: 3, 1, 2 or 8, 4, 5
pub aged_exactly : (a : ℕ) (s old : List ℕ) → AgedTextRefuses a s old
aged_exactly a s old = refuses_by refl (age_row a (whole_row s (one_more (is_held_back a s) (written_row (text_of (aged a s)) old))))

-- `replacements`: 3, 1, 2 or 8, 4
pub replacements_exactly : (a : ℕ) (s : List ℕ) → ReplacementsRefuse a s
replacements_exactly a s = told_exactly (age_row a (whole_row s (one_more (is_held_back a s) none_left)))

-- so 4 is given exactly when the record is held back at one of the twelve ages, and whole
pub four_exactly : (a : ℕ) (s old : List ℕ)
    → ((aged_text a s old).tells ≡ refusal Refusal.HeldBack) ↔ (NoneOf (not_an_age a ∷ fewer_than16 s ∷ fewer_than_size s ∷ []) × (held_back a s ≡ true))
four_exactly a s old =
    refusal_exactly (is_held_back a s) (shorter_than (length (text_of (aged a s))) old ∷ []) tt
    (not_an_age a ∷ fewer_than16 s ∷ fewer_than_size s ∷ []) earlier _ (aged_exactly a s old).exactly where
      -- neither 2 nor 8 is 4
      earlier : T (absent Refusal.HeldBack (not_an_age a ∷ fewer_than16 s ∷ fewer_than_size s ∷ []))
      earlier =
          by_lacking (length s) (size_of s)
          (λ why. T (absent Refusal.HeldBack (not_an_age a ∷ fewer_than16 s ∷ record { holds = ltb (length s) (size_of s); why = why } ∷ [])))
          (λ f h. tt) tt
