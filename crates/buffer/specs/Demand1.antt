-- Demand 1 of a call that writes into a lent buffer. Assumes nothing.
use Rattle.std.specs.Prelude.{ℕ, ◌≡◌, List, [], ◌∷◌, ltb, length}
use Rattle.answers.specs.declared.Refusal.{Refusal}
use Rattle.answers.specs.Demand1.{Condition, Exactly}
use Rattle.buffer.specs.Written.{Outcome, written}

-- 5: the lent buffer is shorter than the n bytes that are to be written
abbrev pub shorter_than : ℕ → List ℕ → Condition
shorter_than n old = record { holds = ltb (length old) n; why = Refusal.ShortBuffer }

-- a call that writes over old gives each number exactly under its condition; unless it succeeds, it has written zero bytes, and
-- it changes nothing lent to it
pub record Refuses (row : List Condition) (old : List ℕ) (o : Outcome) : Type 0 where
  pub exactly : Exactly row o.tells
  pub untouched : (o.tells.number ≡ 0 → ⊥) → (o.tells.amount ≡ 0) × (o.leaves ≡ old)

-- every call that comes to `written w old`, as `write` and `as_string`: 5
abbrev pub WriteRefuses : List ℕ → List ℕ → Type 0
WriteRefuses w old = Refuses (shorter_than (length w) old ∷ []) old (written w old)
