-- Demand 1 of a call for a line: when it is refused, and that a refused line isn't lost. Assumes nothing.
use Rattle.std.specs.Prelude.{ℕ, ◌≡◌, List, [], ◌∷◌, length}
use Rattle.answers.specs.declared.Refusal.{Refusal}
use Rattle.answers.specs.Demand1.{Condition}
use Rattle.buffer.specs.Demand1.{shorter_than, Refuses}
use Rattle.reading.specs.Demand1.{not_an_age}
use Rattle.lines.specs.declared.Cursor.{Cursor}
use Rattle.lines.specs.Lines.{line_at, too_much, line_of}

-- 7: more than 65,536 bytes of input
abbrev pub too_much_input : List ℕ → Condition
too_much_input s = record { holds = too_much s; why = Refusal.TooMuchInput }

-- `line`: 7, 3, 5; unless it succeeds, the cursor is the one that came in, so that a line that gets 5 is given to a longer buffer
pub record LineRefuses (a : ℕ) (s : List ℕ) (c : Cursor) (old : List ℕ) : Type 0 where
  pub numbers : Refuses (too_much_input s ∷ not_an_age a ∷ shorter_than (length (line_at a s c)) old ∷ []) old (line_of a s c old).does
  pub stays : ((line_of a s c old).does.tells.number ≡ 0 → ⊥) → (line_of a s c old).goes ≡ c
