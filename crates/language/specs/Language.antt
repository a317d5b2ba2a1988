-- 000's language and region: how two bytes are unpacked. Assumes nothing.
use Rattle.std.specs.Prelude.{ℕ, ◌+◌, ◌*◌, ◌/◌, ◌%◌, List, [], ◌∷◌, cond, leb, eqb}
use Rattle.subtag.specs.Subtag.{subtag_of}

-- two bytes to four: with the high bit set three letters, counted from base, of five bits each; two letters; or none
unfoldable pub unpacked : ℕ → ℕ → ℕ → List ℕ
unpacked base a b =
    cond (leb 128 a)
    ((b % 32 + base) ∷ (b / 32 + a % 4 * 8 + base) ∷ (a / 4 % 32 + base) ∷ 0 ∷ [])
    (cond (eqb a 0) (0 ∷ 0 ∷ 0 ∷ 0 ∷ []) (a ∷ b ∷ 0 ∷ 0 ∷ []))

-- the bytes of a language of two; its packed letters count from 'a'
abbrev pub language_bytes : ℕ → ℕ → List ℕ
language_bytes a b = unpacked 97 a b

-- their text
abbrev pub language_of : ℕ → ℕ → List ℕ
language_of a b = subtag_of (language_bytes a b)

-- the bytes of a region of two; its packed letters count from '0'
abbrev pub region_bytes : ℕ → ℕ → List ℕ
region_bytes a b = unpacked 48 a b

-- their text
abbrev pub region_of : ℕ → ℕ → List ℕ
region_of a b = subtag_of (region_bytes a b)
