-- 02, K5: a number in a directory name: decimal digits with no leading zero, of 16 bits. Assumes nothing.
use Rattle.std.specs.Prelude.{ℕ, ◌+◌, ◌*◌, ◌-◌, List, [], ◌∷◌, Bool, cond, ◌&&◌, ◌||◌, leb, ltb, eqb, length, get_or}

-- what says that bytes are no number of 16 bits
abbrev pub none : ℕ
none = 65536

-- n, and the digit b behind it; none where b is no digit or the number has more than 16 bits. What is none stays none
unfoldable pub further : ℕ → ℕ → ℕ
further n b = cond (leb 48 b && leb b 57 && leb (n * 10 + (b - 48)) 65535) (n * 10 + (b - 48)) none

-- n, and all the digits of s behind it
unfoldable pub further_all : ℕ → List ℕ → ℕ
further_all n [] = n
further_all n (b ∷ s) = further_all (further n b) s

-- a zero stands in front of other bytes
abbrev pub leading_zero : List ℕ → Bool
leading_zero s = ltb 1 (length s) && eqb (get_or s 0 0) 48

-- the number that the bytes s are in decimal, or none
unfoldable pub number_in : List ℕ → ℕ
number_in s = cond (eqb (length s) 0 || leading_zero s) none (further_all 0 s)
