-- How many replacements a language and a region have at most: 3 and 1. Assumes nothing.
use Prim.Native.Nat.{ℕ, ◌+◌, ◌*◌, ◌/◌, ◌%◌, ◌≤◌, ◌<◌}
use mathlib.Core.Path.{◌≡◌, refl}
use mathlib.Core.List.{List, [], ◌∷◌}
use native.Mathlib.Omega.{arith}
use Rattle.subtag.specs.Replacements.{ill_formed_by, replacements}
use Rattle.subtag.specs.Utf8.{ok_at, front_of}
use Rattle.subtag.proofs.Counts.{count_kept, low_none, low_then_one}
use Rattle.language.specs.Language.{unpacked, language_bytes, region_bytes}
use Rattle.language.proofs.Long.{three_kept, by_way}

pub language_count : (a b : ℕ) → replacements (language_bytes a b) ≤ 3
language_count a b =
    by_way (λ (s : List ℕ). replacements s ≤ 3) 97 a b
    (λ h.
    let x = b % 32 + 97 in
    let y = b / 32 + a % 4 * 8 + 97 in
    let z = a / 4 % 32 + 97 in
    omega (arith, count_kept (x ∷ y ∷ z ∷ 0 ∷ []), three_kept x y z))
    (omega (arith, count_kept (0 ∷ 0 ∷ 0 ∷ 0 ∷ []), three_kept 0 0 0))
    (λ h. omega (arith, low_then_one a b h))

-- a region's packed letters are all below 80, where its second byte is a byte
pub region_count : (a b : ℕ) → b < 256 → replacements (region_bytes a b) ≤ 1
region_count a b byte =
    by_way (λ (s : List ℕ). replacements s ≤ 1) 48 a b
    (λ h. omega (
      arith,
      low_none ((b % 32 + 48) ∷ (b / 32 + a % 4 * 8 + 48) ∷ (a / 4 % 32 + 48) ∷ 0 ∷ []) (omega arith, (omega arith, (omega arith, (omega arith, tt)))),
    ))
    (omega (arith, low_none (0 ∷ 0 ∷ 0 ∷ 0 ∷ []) (omega arith, (omega arith, (omega arith, (omega arith, tt))))))
    (λ h. low_then_one a b h)

-- the language FF FF has three
three : replacements (language_bytes 0xFF 0xFF) ≡ 3
unfolding replacements ill_formed_by front_of ok_at unpacked
three = refl
