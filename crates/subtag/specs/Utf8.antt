-- Which bytes are well-formed UTF-8: the Unicode Standard, Table 3-7, and its maximal subparts (chapter 3.9). Assumes nothing.
use Rattle.std.specs.Prelude.{ℕ, suc, ◌+◌, Bool, cond, ◌&&◌, List, [], ◌∷◌, leb, ltb, eqb, length, get_or}
use Rattle.std.proofs.Math.Option.{Option, none, some}
use Rattle.subtag.specs.declared.utf8.Front.{Front}

-- Table 3-7: the range of a first byte, and the ranges of the bytes that follow it
abbrev pub table : List (ℕ × ℕ × List (ℕ × ℕ))
table =
    (0x00, 0x7F, []) ∷
    (0xC2, 0xDF, (0x80, 0xBF) ∷ []) ∷
    (0xE0, 0xE0, (0xA0, 0xBF) ∷ (0x80, 0xBF) ∷ []) ∷
    (0xE1, 0xEC, (0x80, 0xBF) ∷ (0x80, 0xBF) ∷ []) ∷
    (0xED, 0xED, (0x80, 0x9F) ∷ (0x80, 0xBF) ∷ []) ∷
    (0xEE, 0xEF, (0x80, 0xBF) ∷ (0x80, 0xBF) ∷ []) ∷
    (0xF0, 0xF0, (0x90, 0xBF) ∷ (0x80, 0xBF) ∷ (0x80, 0xBF) ∷ []) ∷
    (0xF1, 0xF3, (0x80, 0xBF) ∷ (0x80, 0xBF) ∷ (0x80, 0xBF) ∷ []) ∷
    (0xF4, 0xF4, (0x80, 0x8F) ∷ (0x80, 0xBF) ∷ (0x80, 0xBF) ∷ []) ∷
    []

-- whether b is from lo to hi
abbrev pub within : ℕ → ℕ → ℕ → Bool
within lo hi b = leb b hi && leb lo b

-- the row of a first byte: the ranges of the bytes that follow; none where no row has it
abbrev pub row_of : List (ℕ × ℕ × List (ℕ × ℕ)) → ℕ → Option (List (ℕ × ℕ))
row_of [] b = none
row_of (r ∷ rs) b = cond (within r.0 r.1 b) (some r.2) (row_of rs b)

-- whether s has a byte at offset i, and it is from lo to hi
unfoldable pub ok_at : List ℕ → ℕ → ℕ → ℕ → Bool
ok_at s i lo hi = ltb i (length s) && within lo hi (get_or s i 0)

-- how many bytes of s from offset i on are in the ranges, one after the other
abbrev pub matched : List (ℕ × ℕ) → List ℕ → ℕ → ℕ
matched [] s i = 0
matched (r ∷ rs) s i = cond (ok_at s i r.0 r.1) (suc (matched rs s (suc i))) 0

-- well-formed where every range of the row is met; else the maximal subpart goes as far as the ranges are met
abbrev pub judge : Option (List (ℕ × ℕ)) → List ℕ → Front
judge none s = Front.IllFormed 1
judge (some rs) s = cond (eqb (matched rs s 1) (length rs)) (Front.WellFormed (1 + length rs)) (Front.IllFormed (1 + matched rs s 1))

-- what stands at the front of bytes s, of which there is one at least
unfoldable pub front_of : List ℕ → Front
front_of s = judge (row_of table (get_or s 0 0)) s
