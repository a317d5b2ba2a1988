-- 01, "Text": subtags. Assumes nothing.
use Rattle.std.specs.Prelude.{ℕ, zero, suc, cond, List, [], ◌∷◌, ◌++◌, eqb, length, take, drop}
use Rattle.subtag.specs.declared.utf8.Front.{Front}
use Rattle.subtag.specs.Utf8.{front_of}

-- U+FFFD in UTF-8, which stands for a maximal subpart
abbrev pub replacement : List ℕ
replacement = 0xEF ∷ 0xBF ∷ 0xBD ∷ []

-- what the front of s becomes: a well-formed sequence stays, a maximal subpart is replaced
abbrev pub piece_of : Front → List ℕ → List ℕ
piece_of (Front.WellFormed n) s = take n s
piece_of (Front.IllFormed n) s = replacement

-- how many bytes the front has
abbrev pub front_size : Front → ℕ
front_size (Front.WellFormed n) = n
front_size (Front.IllFormed n) = n

-- front after front, k of them at the most
unfoldable pub replaced_by : ℕ → List ℕ → List ℕ
replaced_by zero s = []
replaced_by (suc k) [] = []
replaced_by (suc k) (b ∷ s) = piece_of (front_of (b ∷ s)) (b ∷ s) ++ replaced_by k (drop (front_size (front_of (b ∷ s))) (b ∷ s))

-- s with its ill-formed bytes replaced; each front has a byte at least, so there are no more fronts than bytes
unfoldable pub replaced : List ℕ → List ℕ
replaced s = replaced_by (length s) s

-- b before a text, unless b is a NUL and the text is empty
unfoldable pub keep : ℕ → List ℕ → List ℕ
keep b [] = cond (eqb b 0) [] (b ∷ [])
keep b (c ∷ t) = b ∷ c ∷ t

-- s without the NULs at its end; NULs inside stay
unfoldable pub drop_nuls : List ℕ → List ℕ
unfolding keep
drop_nuls [] = []
drop_nuls (b ∷ s) = keep b (drop_nuls s)

-- a subtag's text: ill-formed bytes replaced, then trailing NULs dropped
unfoldable pub subtag_of : List ℕ → List ℕ
subtag_of s = drop_nuls (replaced s)
