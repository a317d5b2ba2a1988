-- Bytes held against bytes. Assumes nothing.
use Rattle.std.specs.Prelude.{ℕ, suc, List, [], ◌∷◌, Bool, true, false, cond, eqb, length, take}

-- whether two lists of bytes are one
unfoldable pub same : List ℕ → List ℕ → Bool
same [] [] = true
same [] (b ∷ t) = false
same (a ∷ s) [] = false
same (a ∷ s) (b ∷ t) = cond (eqb a b) (same s t) false

-- whether s begins with w
unfoldable pub begins_with : List ℕ → List ℕ → Bool
begins_with w s = same (take (length w) s) w

-- how many bytes stand before the first b, all of them where there is none
unfoldable pub up_to : ℕ → List ℕ → ℕ
up_to b [] = 0
up_to b (a ∷ s) = cond (eqb a b) 0 (suc (up_to b s))
