-- 02, K1: how many replacements are made in a subtag, counted by its fronts, apart from its text. Assumes nothing.
use Rattle.std.specs.Prelude.{ℕ, zero, suc, ◌+◌, ◌≡◌, List, [], ◌∷◌, length, drop}
use Rattle.subtag.specs.declared.utf8.Front.{Front}
use Rattle.subtag.specs.Utf8.{front_of}
use Rattle.subtag.specs.Subtag.{front_size}

-- a maximal ill-formed subpart counts as one, a well-formed sequence as none
abbrev pub ill_formed : Front → ℕ
ill_formed (Front.WellFormed n) = 0
ill_formed (Front.IllFormed n) = 1

-- front after front, k of them at the most
unfoldable pub ill_formed_by : ℕ → List ℕ → ℕ
ill_formed_by zero s = 0
ill_formed_by (suc k) [] = 0
ill_formed_by (suc k) (b ∷ s) = ill_formed (front_of (b ∷ s)) + ill_formed_by k (drop (front_size (front_of (b ∷ s))) (b ∷ s))

-- how many maximal ill-formed subparts bytes s have; each front has a byte at least, so there are no more fronts than bytes
unfoldable pub replacements : List ℕ → ℕ
replacements s = ill_formed_by (length s) s

-- the sum over subtags
abbrev pub replacements_in : List (List ℕ) → ℕ
replacements_in [] = 0
replacements_in (s ∷ rest) = replacements s + replacements_in rest

-- well-formed UTF-8: one sequence of Table 3-7 behind the other
pub data WellFormedUtf8 : List ℕ → Type 0 where
  none : WellFormedUtf8 []
  more : {b : ℕ} {s : List ℕ} {n : ℕ} → front_of (b ∷ s) ≡ Front.WellFormed n → WellFormedUtf8 (drop n (b ∷ s)) → WellFormedUtf8 (b ∷ s)
