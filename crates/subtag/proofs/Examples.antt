-- The definition at worked examples of the Unicode Standard (Tables 3-8 to 3-11 of chapter 3.9) and of 01. Assumes nothing.
use Prim.Native.Nat.{ℕ}
use mathlib.Core.Path.{◌≡◌, refl}
use mathlib.Core.List.{List, [], ◌∷◌, ◌++◌}
use Rattle.subtag.specs.Utf8.{ok_at, front_of}
use Rattle.subtag.specs.Replacements.{ill_formed_by, replacements}
use Rattle.subtag.specs.Subtag.{replacement, replaced_by, replaced, keep, drop_nuls, subtag_of}

-- n replacements, and then a text
abbrev times : List ℕ → List ℕ → List ℕ
times [] rest = rest
times (n ∷ ns) rest = replacement ++ times ns rest

-- non-shortest forms: C0 AF E0 80 BF F0 81 82 41, a replacement for each byte but the last
overlong : replaced (0xC0 ∷ 0xAF ∷ 0xE0 ∷ 0x80 ∷ 0xBF ∷ 0xF0 ∷ 0x81 ∷ 0x82 ∷ 0x41 ∷ []) ≡ times (0 ∷ 0 ∷ 0 ∷ 0 ∷ 0 ∷ 0 ∷ 0 ∷ 0 ∷ []) (0x41 ∷ [])
unfolding replaced replaced_by front_of ok_at
overlong = refl

-- surrogates: ED A0 80 ED BF BF ED AF 41
surrogates : replaced (0xED ∷ 0xA0 ∷ 0x80 ∷ 0xED ∷ 0xBF ∷ 0xBF ∷ 0xED ∷ 0xAF ∷ 0x41 ∷ []) ≡ times (0 ∷ 0 ∷ 0 ∷ 0 ∷ 0 ∷ 0 ∷ 0 ∷ 0 ∷ []) (0x41 ∷ [])
unfolding replaced replaced_by front_of ok_at
surrogates = refl

-- other ill-formed sequences: F4 91 92 93 FF 41 80 BF 42
others : replaced (0xF4 ∷ 0x91 ∷ 0x92 ∷ 0x93 ∷ 0xFF ∷ 0x41 ∷ 0x80 ∷ 0xBF ∷ 0x42 ∷ [])
    ≡ times (0 ∷ 0 ∷ 0 ∷ 0 ∷ 0 ∷ []) (0x41 ∷ times (0 ∷ 0 ∷ []) (0x42 ∷ []))
unfolding replaced replaced_by front_of ok_at
others = refl

-- truncated sequences: E1 80 E2 F0 91 92 F1 BF 41, one replacement for each of four
truncated : replaced (0xE1 ∷ 0x80 ∷ 0xE2 ∷ 0xF0 ∷ 0x91 ∷ 0x92 ∷ 0xF1 ∷ 0xBF ∷ 0x41 ∷ []) ≡ times (0 ∷ 0 ∷ 0 ∷ 0 ∷ []) (0x41 ∷ [])
unfolding replaced replaced_by front_of ok_at
truncated = refl

-- 01's example 4: the language FF FF unpacks to three bytes 80 and a NUL
packed : subtag_of (0x80 ∷ 0x80 ∷ 0x80 ∷ 0 ∷ []) ≡ times (0 ∷ 0 ∷ 0 ∷ []) []
unfolding subtag_of drop_nuls keep replaced replaced_by front_of ok_at
packed = refl

-- 01's example 7: one replacement for E2 82, and the NUL inside stays
inside : subtag_of (0xE2 ∷ 0x82 ∷ 0 ∷ 0x41 ∷ []) ≡ times (0 ∷ []) (0 ∷ 0x41 ∷ [])
unfolding subtag_of drop_nuls keep replaced replaced_by front_of ok_at
inside = refl

-- well-formed text stays, and NULs at the end go
stays : subtag_of (0xC3 ∷ 0xA9 ∷ 0xE2 ∷ 0x82 ∷ 0xAC ∷ 0 ∷ 0 ∷ 0 ∷ []) ≡ 0xC3 ∷ 0xA9 ∷ 0xE2 ∷ 0x82 ∷ 0xAC ∷ []
unfolding subtag_of drop_nuls keep replaced replaced_by front_of ok_at
stays = refl

-- what is counted: EF BF BD that the bytes hold is well-formed and stays, E2 82 is one, three bytes 80 are three
counted :
    (replacements replacement ≡ 0)
    × (subtag_of replacement ≡ replacement)
    × (replacements (0xE2 ∷ 0x82 ∷ 0 ∷ 0x41 ∷ []) ≡ 1)
    × (replacements (0x80 ∷ 0x80 ∷ 0x80 ∷ 0 ∷ []) ≡ 3)
unfolding replacements ill_formed_by subtag_of drop_nuls keep replaced replaced_by front_of ok_at
counted = (refl, refl, refl, refl)
