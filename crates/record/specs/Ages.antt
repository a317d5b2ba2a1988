-- 01, "Ages, marks, runs": the twelve ages. Assumes nothing.
use Rattle.std.specs.Prelude.{ℕ, List, [], ◌∷◌, Bool, false, ◌||◌, cond, eqb, Result, Ok, Err}
use Rattle.answers.specs.declared.Refusal.{Refusal}

-- the twelve ages
abbrev pub ages : List ℕ
ages = 16 ∷ 20 ∷ 24 ∷ 28 ∷ 32 ∷ 36 ∷ 40 ∷ 48 ∷ 52 ∷ 53 ∷ 61 ∷ 64 ∷ []

-- whether a number is among some
abbrev pub among : ℕ → List ℕ → Bool
among n [] = false
among n (a ∷ more) = eqb n a || among n more

-- whether a number is one of the twelve
unfoldable pub is_age : ℕ → Bool
is_age n = among n ages

-- the age of a reader that is given none
abbrev pub default_age : ℕ
default_age = 52

-- the offset up to which a reader of age a knows a record; 3 comes where a is not among the twelve
abbrev pub end_of_age : ℕ → Result ℕ Refusal
end_of_age a = cond (is_age a) (Ok a) (Err Refusal.NotAnAge)
