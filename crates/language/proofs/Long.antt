-- How long a language and a region are at most: 9 bytes and 4. Assumes nothing.
use Prim.Native.Nat.{ℕ, ◌+◌, ◌*◌, ◌/◌, ◌%◌, ◌≤◌, ◌<◌}
use mathlib.Core.List.{List, [], ◌∷◌}
use native.Mathlib.Omega.{arith}
use native.Mathlib.Decide.{dec_le, ℕ_discrete}
use lib.ListN.{length}
use borrow.Author.Tests.{le-leb, lt-leb, eq-eqb, ne_eqb}
use Rattle.subtag.specs.Subtag.{keep, drop_nuls, subtag_of}
use Rattle.subtag.proofs.Long.{keep_long, nul_gone, subtag_kept, low_long, low_then}
use Rattle.language.specs.Language.{unpacked, language_of, region_of}

-- three bytes and a NUL: three are kept at the most
pub three_kept : (x y z : ℕ) → length (drop_nuls (x ∷ y ∷ z ∷ 0 ∷ [])) ≤ 3
unfolding drop_nuls
three_kept x y z =
    let k = keep 0 [] in
    omega (arith, nul_gone, keep_long z k, keep_long y (keep z k), keep_long x (keep y (keep z k)))

-- what holds of each of the three ways to unpack holds of what is unpacked
pub by_way : (P : List ℕ → Type 0) (base a b : ℕ)
    → (128 ≤ a → P ((b % 32 + base) ∷ (b / 32 + a % 4 * 8 + base) ∷ (a / 4 % 32 + base) ∷ 0 ∷ []))
    → P (0 ∷ 0 ∷ 0 ∷ 0 ∷ []) → (a < 128 → P (a ∷ b ∷ 0 ∷ 0 ∷ [])) → P (unpacked base a b)
unfolding unpacked
by_way P base a b packed none two =
    elim (dec_le 128 a) [
      | yes h ↦ rw (le-leb 128 a h) (packed h)
      | no h ↦ let l : a < 128 = omega arith in
          rw (lt-leb 128 a l)
          (elim (ℕ_discrete a 0) [
            | yes e ↦ rw (eq-eqb a 0 e) none
            | no e ↦ rw (ne_eqb a 0 e) (two l)
          ])
    ]

pub language_long : (a b : ℕ) → length (language_of a b) ≤ 9
language_long a b =
    by_way (λ (s : List ℕ). length (subtag_of s) ≤ 9) 97 a b
    (λ h. omega (arith, subtag_kept ((b % 32 + 97) ∷ (b / 32 + a % 4 * 8 + 97) ∷ (a / 4 % 32 + 97) ∷ 0 ∷ []), three_kept (b % 32 + 97) (b / 32 + a % 4 * 8 + 97) (a / 4 % 32 + 97)))
    (omega (arith, subtag_kept (0 ∷ 0 ∷ 0 ∷ 0 ∷ []), three_kept 0 0 0))
    (λ h. omega (arith, low_then a b h))

-- a region's packed letters are all below 80, where its second byte is a byte
pub region_long : (a b : ℕ) → b < 256 → length (region_of a b) ≤ 4
region_long a b byte =
    by_way (λ (s : List ℕ). length (subtag_of s) ≤ 4) 48 a b
    (λ h. omega (
      arith,
      low_long ((b % 32 + 48) ∷ (b / 32 + a % 4 * 8 + 48) ∷ (a / 4 % 32 + 48) ∷ 0 ∷ []) (omega arith, (omega arith, (omega arith, (omega arith, tt)))),
      three_kept (b % 32 + 48) (b / 32 + a % 4 * 8 + 48) (a / 4 % 32 + 48),
    ))
    (omega (arith, low_long (0 ∷ 0 ∷ 0 ∷ 0 ∷ []) (omega arith, (omega arith, (omega arith, (omega arith, tt)))), three_kept 0 0 0))
    (λ h. low_then a b h)
