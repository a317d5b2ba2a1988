-- Demand 1 of the text calls: when they are refused. Assumes nothing.
use Rattle.std.specs.Prelude.{ℕ, List, [], ◌∷◌, length}
use Rattle.answers.specs.Demand1.{Exactly}
use Rattle.buffer.specs.Demand1.{shorter_than, Refuses}
use Rattle.reading.specs.Reading.{plain, aged}
use Rattle.reading.specs.Demand1.{fewer_than16, fewer_than_size, not_an_age}
use Rattle.marking.specs.Demand1.{is_held_back}
use Rattle.places.specs.Places.{text_of}
use Rattle.text.specs.Counted.{replacements_of}
use Rattle.text.specs.Text.{plain_text, aged_text}

-- `plain_text`: 1, 2 or 8, 5
abbrev pub PlainTextRefuses : List ℕ → List ℕ → Type 0
PlainTextRefuses s old = Refuses (fewer_than16 s ∷ fewer_than_size s ∷ shorter_than (length (text_of (plain s))) old ∷ []) old (plain_text s old)

-- `aged_text` and, from an offset on, `text_at`: 3, 1, 2 or 8, 4, 5
abbrev pub AgedTextRefuses : ℕ → List ℕ → List ℕ → Type 0
AgedTextRefuses a s old =
    Refuses (not_an_age a ∷ fewer_than16 s ∷ fewer_than_size s ∷ is_held_back a s ∷ shorter_than (length (text_of (aged a s))) old ∷ []) old (aged_text a s old)

-- `replacements`: 3, 1, 2 or 8, 4
abbrev pub ReplacementsRefuse : ℕ → List ℕ → Type 0
ReplacementsRefuse a s = Exactly (not_an_age a ∷ fewer_than16 s ∷ fewer_than_size s ∷ is_held_back a s ∷ []) (replacements_of a s)
