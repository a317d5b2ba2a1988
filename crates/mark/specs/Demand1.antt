-- Demand 1 of the letters of a word: when they are refused, and what 12 says. Assumes nothing.
use Rattle.std.specs.Prelude.{ℕ, ◌/◌, ◌%◌, ◌^◌, ◌≤◌, ◌≡◌, List, [], ◌∷◌, ◌↔◌}
use Rattle.answers.specs.declared.Refusal.{Refusal}
use Rattle.answers.specs.Tells.{refusal}
use Rattle.answers.specs.Demand1.{Condition}
use Rattle.buffer.specs.Demand1.{shorter_than, Refuses}
use Rattle.mark.specs.Word.{top_bits, letters_outcome}

-- 12: top bits not zero
abbrev pub top_bits_set : ℕ → Condition
top_bits_set word = record { holds = top_bits word; why = Refusal.TopBits }

-- `write_letters`: 12, 5
abbrev pub LettersRefuse : ℕ → List ℕ → Type 0
LettersRefuse word old = Refuses (top_bits_set word ∷ shorter_than 14 old ∷ []) old (letters_outcome word old)

-- a bit of a word that is set, from 28 up
pub record TopBit (word : ℕ) : Type 0 where
  pub place : ℕ
  pub high : 28 ≤ place
  pub set : word / 2 ^ place % 2 ≡ 1

-- 12 exactly when there is one
abbrev pub TwelveExactly : Type 0
TwelveExactly = (word : ℕ) (old : List ℕ) → ((letters_outcome word old).tells ≡ refusal Refusal.TopBits) ↔ TopBit word
