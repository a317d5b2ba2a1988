-- 01, "The record": the field table, how many bytes a record takes, and what a list of bytes says. Assumes nothing.
use Rattle.std.specs.Prelude.{ℕ, ◌+◌, ◌*◌, ◌-◌, ◌<◌, max, List, [], ◌∷◌, Bool, true, false, ◌&&◌, get_or, take, drop, eqb}

-- each number is a byte
abbrev pub Bytes : List ℕ → Type 0
Bytes s = (i : ℕ) → get_or s i 0 < 256

-- where each of the fifteen fields starts, size first
abbrev pub starts : List ℕ
starts = 0 ∷ 4 ∷ 8 ∷ 12 ∷ 16 ∷ 20 ∷ 24 ∷ 28 ∷ 32 ∷ 36 ∷ 40 ∷ 48 ∷ 52 ∷ 53 ∷ 61 ∷ []

-- where each ends, end not included
abbrev pub ends : List ℕ
ends = 4 ∷ 8 ∷ 12 ∷ 16 ∷ 20 ∷ 24 ∷ 28 ∷ 32 ∷ 36 ∷ 40 ∷ 48 ∷ 52 ∷ 53 ∷ 61 ∷ 64 ∷ []

-- the start of field f
abbrev pub start_of : ℕ → ℕ
start_of f = get_or starts f 0

-- the end of field f
abbrev pub end_of : ℕ → ℕ
end_of f = get_or ends f 0

-- how many bytes field f has
abbrev pub width_of : ℕ → ℕ
width_of f = end_of f - start_of f

-- n of the bytes s, from offset a on
abbrev pub part : List ℕ → ℕ → ℕ → List ℕ
part s a n = take n (drop a s)

-- the number of some bytes, little-endian
abbrev pub le : List ℕ → ℕ
le [] = 0
le (b ∷ bs) = b + 256 * le bs

-- whether bytes are all zero
abbrev pub all_zero : List ℕ → Bool
all_zero [] = true
all_zero (b ∷ bs) = eqb b 0 && all_zero bs

-- a record of that size takes T = max(size, 16) bytes
abbrev pub bytes_taken : ℕ → ℕ
bytes_taken size = max size 16

-- a yes as a number: 1
abbrev pub bit : Bool → ℕ
bit false = 0
bit true = 1
