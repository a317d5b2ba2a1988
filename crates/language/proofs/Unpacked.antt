-- What two bytes are unpacked to, letter by letter. Assumes nothing.
use Prim.Native.Nat.{ℕ, ◌+◌, ◌*◌, ◌/◌, ◌%◌, ◌≤◌, ◌<◌}
use mathlib.Core.Path.{◌≡◌}
use mathlib.Core.List.{[], ◌∷◌, ◌++◌}
use native.Mathlib.Omega.{arith}
use borrow.Author.Tests.{le-leb, lt-leb, eq-eqb, ne_eqb}
use Rattle.subtag.specs.Replacements.{replacements}
use Rattle.subtag.specs.Subtag.{subtag_of}
use Rattle.subtag.proofs.Letters.{Is, four_nuls, two_letters, three_letters}
use Rattle.language.specs.Language.{unpacked}

module _ (base a b : ℕ) where
  pub none_is : a ≡ 0 → Is (unpacked base a b) [] 0
  unfolding unpacked
  none_is e = rw (lt-leb 128 a (omega arith), eq-eqb a 0 e) four_nuls

  pub two_is : (a ≡ 0 → ⊥) → a < 128 → Is (unpacked base a b) ((a ∷ []) ++ subtag_of (b ∷ [])) (replacements (b ∷ []))
  unfolding unpacked
  two_is h k = rw (lt-leb 128 a k, ne_eqb a 0 h) (two_letters a b (omega arith) k)

  pub three_is : 128 ≤ a → b < 256 → (1 ≤ base) × (base ≤ 97)
      → Is (unpacked base a b)
      (subtag_of ((b % 32 + base) ∷ []) ++ subtag_of ((b / 32 + a % 4 * 8 + base) ∷ []) ++ subtag_of ((a / 4 % 32 + base) ∷ []))
      (replacements ((b % 32 + base) ∷ []) + replacements ((b / 32 + a % 4 * 8 + base) ∷ []) + replacements ((a / 4 % 32 + base) ∷ []))
  unfolding unpacked
  three_is h k m =
      rw (le-leb 128 a h)
      (three_letters (b % 32 + base) (b / 32 + a % 4 * 8 + base) (a / 4 % 32 + base) (omega arith) (omega arith) (omega arith) (omega arith))
