-- 01, "The listing": what it says that a line is ended by one newline, and holds no other. Assumes nothing.
use Rattle.std.specs.Prelude.{ℕ, ◌≡◌, List, [], ◌∷◌, ◌++◌}
use Rattle.record_line.specs.RecordLine.{newline}

-- no newline
pub data Unbroken : List ℕ → Type 0 where
  none : Unbroken []
  more : {b : ℕ} {w : List ℕ} → (b ≡ 10 → ⊥) → Unbroken w → Unbroken (b ∷ w)

-- one newline, at its end
pub record Ended (w : List ℕ) : Type 0 where
  pub front : List ℕ
  pub is : w ≡ front ++ newline
  pub unbroken : Unbroken front
