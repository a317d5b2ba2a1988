-- Demand 1 of the marks and of holding back: when they are refused, and what 4 says. Assumes nothing.
use Rattle.std.specs.Prelude.{ℕ, ◌≤◌, ◌<◌, ◌≡◌, List, [], ◌∷◌, true, ◌↔◌, get_or}
use Rattle.answers.specs.declared.Refusal.{Refusal}
use Rattle.answers.specs.Demand1.{Condition, Exactly}
use Rattle.buffer.specs.Demand1.{shorter_than, Refuses}
use Rattle.reading.specs.Reading.{taken}
use Rattle.reading.specs.Demand1.{fewer_than16, fewer_than_size, not_an_age}
use Rattle.marking.specs.Marks.{word_told, marks_outcome, held_back, held_of}

-- 4: held back
abbrev pub is_held_back : ℕ → List ℕ → Condition
is_held_back a s = record { holds = held_back a s; why = Refusal.HeldBack }

-- one of the T bytes at offset a or later that isn't zero: its offset
pub record Late (a : ℕ) (s : List ℕ) : Type 0 where
  pub offset : ℕ
  pub late : a ≤ offset
  pub within : offset < taken s
  pub found : get_or s offset 0 ≡ 0 → ⊥

-- a record is held back exactly when there is such a byte; bytes in no field and the tail past 64 count like any others
abbrev pub HeldWhenLate : ℕ → List ℕ → Type 0
HeldWhenLate a s = (held_back a s ≡ true) ↔ Late a s

-- `marks_word`: 3, 1, 2 or 8
abbrev pub WordRefuses : ℕ → List ℕ → Type 0
WordRefuses a s = Exactly (not_an_age a ∷ fewer_than16 s ∷ fewer_than_size s ∷ []) (word_told a s)

-- `marks` and, from an offset on, `marks_at`: 3, 1, 2 or 8, 5
abbrev pub MarksRefuse : ℕ → List ℕ → List ℕ → Type 0
MarksRefuse a s old = Refuses (not_an_age a ∷ fewer_than16 s ∷ fewer_than_size s ∷ shorter_than 14 old ∷ []) old (marks_outcome a s old)

-- `held_back`: 3, 1, 2 or 8
abbrev pub HeldRefuses : ℕ → List ℕ → Type 0
HeldRefuses a s = Exactly (not_an_age a ∷ fewer_than16 s ∷ fewer_than_size s ∷ []) (held_of a s)
