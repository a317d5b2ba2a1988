-- A table's entry at a number. Assumes nothing.
use Rattle.std.specs.Prelude.{ℕ, List, [], ◌∷◌, cond, eqb}

-- what the first row with the number n has, and other where no row has it
abbrev pub pick : {A : Type 0} → List (ℕ × A) → A → ℕ → A
pick [] other n = other
pick (e ∷ t) other n = cond (eqb n e.0) e.1 (pick t other n)
