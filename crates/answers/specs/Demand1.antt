-- Demand 1: a call refuses by a number in 01, each given exactly under its condition and in the order there. Assumes nothing.
use Rattle.std.specs.Prelude.{◌≡◌, Bool, true, false, not, ◌&&◌, List, [], ◌∷◌, ◌↔◌, ◌⊎◌}
use Rattle.answers.specs.declared.Refusal.{Refusal}
use Rattle.answers.specs.declared.Told.{Told}
use Rattle.answers.specs.Tells.{refusal}

-- a condition of 01's table: whether it holds, and the refusal that it asks for
pub record Condition : Type 0 where
  pub holds : Bool
  pub why : Refusal

-- a condition that counts only where a test fails
abbrev pub unless : Bool → Condition → Condition
unless test c = record { holds = not test && c.holds; why = c.why }

-- no condition of a row holds
abbrev pub NoneOf : List Condition → Type 0
NoneOf [] = Unit {0}
NoneOf (c ∷ row) = (c.holds ≡ false) × NoneOf row

-- a refusal is a row's first: its condition holds, and no earlier one does
abbrev pub FirstOf : Refusal → List Condition → Type 0
FirstOf why [] = ⊥
FirstOf why (c ∷ row) = ((c.holds ≡ true) × (c.why ≡ why)) ⊎ ((c.holds ≡ false) × FirstOf why row)

-- a call with a row of conditions tells a refusal exactly when that is the row's first, and number 0 exactly when no condition holds
pub record Exactly (row : List Condition) (told : Told) : Type 0 where
  pub refuses : (why : Refusal) → (told ≡ refusal why) ↔ FirstOf why row
  pub succeeds : (told.number ≡ 0) ↔ NoneOf row
