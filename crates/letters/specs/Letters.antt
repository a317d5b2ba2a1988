-- 02, K5: the value of a language or a region in a directory name, and 0 where bytes are none: no part puts 0. Assumes nothing.
use Rattle.std.specs.Prelude.{ℕ, List, [], ◌∷◌, Bool, cond, ◌&&◌, leb, eqb}
use Rattle.buffer.specs.Ascii.{ascii}
use Rattle.compare.specs.Compare.{same}
use Rattle.grammar.specs.Forms.{letter_pair, packed}

-- whether a byte is one of lo to hi
abbrev pub within : ℕ → ℕ → ℕ → Bool
within lo hi a = leb lo a && leb a hi

-- two bytes of lo to hi
abbrev pub two : ℕ → ℕ → ℕ → ℕ → ℕ
two lo hi a b = cond (within lo hi a && within lo hi b) (letter_pair a b) 0

-- three of them
abbrev pub three : ℕ → ℕ → ℕ → ℕ → ℕ → ℕ
three lo hi a b c = cond (within lo hi a && within lo hi b && within lo hi c) (packed lo a b c) 0

-- two or three lowercase letters, but not "car", which is a UI type
unfoldable pub language_value : List ℕ → ℕ
language_value [] = 0
language_value (a ∷ []) = 0
language_value (a ∷ b ∷ []) = two 97 122 a b
language_value (a ∷ b ∷ c ∷ []) = cond (same (a ∷ b ∷ c ∷ []) (ascii "car")) 0 (three 97 122 a b c)
language_value (a ∷ b ∷ c ∷ d ∷ s) = 0

-- 'r', and two capitals or three digits
unfoldable pub region_value : List ℕ → ℕ
region_value [] = 0
region_value (r ∷ []) = 0
region_value (r ∷ a ∷ []) = 0
region_value (r ∷ a ∷ b ∷ []) = cond (eqb r 114) (two 65 90 a b) 0
region_value (r ∷ a ∷ b ∷ c ∷ []) = cond (eqb r 114) (three 48 57 a b c) 0
region_value (r ∷ a ∷ b ∷ c ∷ d ∷ s) = 0
