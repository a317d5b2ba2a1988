-- The letters of a language and of a region come back from the two bytes that hold them. Assumes nothing.
use Prim.Native.Nat.{ℕ, ◌+◌, ◌*◌, ◌-◌, ◌/◌, ◌%◌, ◌≤◌, ◌<◌}
use mathlib.Core.Path.{◌≡◌, ◌∙◌}
use mathlib.Core.List.{List, [], ◌∷◌}
use native.Mathlib.Omega.{arith}
use Rattle.subtag.specs.Subtag.{subtag_of}
use Rattle.subtag.proofs.Letters.{low_alone}
use Rattle.language.specs.Language.{unpacked}
use Rattle.language.proofs.Unpacked.{two_is, three_is}
use Rattle.grammar.specs.Forms.{Within, letter_pair, packed}

-- the text of a value's two bytes
abbrev pub letters_of : ℕ → ℕ → List ℕ
letters_of base v = subtag_of (unpacked base (v % 256) (v / 256))

-- two bytes that hold the letters w: the first isn't 0, and their text is w
pub record Holds (base v : ℕ) (w : List ℕ) : Type 0 where
  pub begins : 1 ≤ v % 256
  pub back : letters_of base v ≡ w

-- the bytes of a value
bytes_of : (x y : ℕ) → x < 256 → ((x + y * 256) % 256 ≡ x) × ((x + y * 256) / 256 ≡ y)
bytes_of x y h = (omega arith, omega arith)

-- a letter by itself
letter : (b : ℕ) → 1 ≤ b → b ≤ 127 → subtag_of (b ∷ []) ≡ b ∷ []
letter b h k = (low_alone b h (omega arith)).0

-- two letters
pub two_back : (base : ℕ) {lo hi : ℕ} (a b : ℕ) → 1 ≤ lo → hi ≤ 127 → Within lo hi a → Within lo hi b → Holds base (letter_pair a b) (a ∷ b ∷ [])
two_back base a b n m h k =
    let e = bytes_of a b (omega arith) in
    record {
      begins = omega (arith, e.0);
      back = rw (e.0, e.1, ← letter b (omega arith) (omega arith)) (two_is base a b (λ z. omega arith) (omega arith)).0;
    }

-- three numbers of five bits, from the two bytes that they fill with the high bit set
five_bits : (i j k : ℕ) → i < 32 → j < 32 → k < 32
    → ((i + j % 8 * 32) % 32 ≡ i) × ((i + j % 8 * 32) / 32 + (128 + k * 4 + j / 8) % 4 * 8 ≡ j) × ((128 + k * 4 + j / 8) / 4 % 32 ≡ k)
five_bits i j k hi hj hk = (omega arith, omega arith, omega arith)

-- these are two bytes, and the first has the high bit
five_bytes : (i j k : ℕ) → i < 32 → j < 32 → k < 32 → (128 ≤ 128 + k * 4 + j / 8) × (128 + k * 4 + j / 8 < 256) × (i + j % 8 * 32 < 256)
five_bytes i j k hi hj hk = (omega arith, omega arith, omega arith)

-- three letters that are i, j and k behind base
packed_back : (base i j k : ℕ) → 1 ≤ base → base ≤ 97 → i ≤ 30 → j ≤ 30 → k ≤ 30
    → Holds base ((128 + k * 4 + j / 8) + (i + j % 8 * 32) * 256) ((i + base) ∷ (j + base) ∷ (k + base) ∷ [])
packed_back base i j k n m hi hj hk =
    let x = 128 + k * 4 + j / 8 in
    let y = i + j % 8 * 32 in
    let t = five_bytes i j k (omega arith) (omega arith) (omega arith) in
    let d = five_bits i j k (omega arith) (omega arith) (omega arith) in
    let e = bytes_of x y t.1 in
    let l : (o : ℕ) → o ≤ 30 → subtag_of ((o + base) ∷ []) ≡ (o + base) ∷ [] = λ o h. letter (o + base) (omega arith) (omega arith) in
    record {
      begins = omega (arith, e.0, t.0);
      back = rw (e.0, e.1) ((three_is base x y t.0 t.2 (n, m)).0 ∙ rw (d.0, d.1, d.2, l i hi, l j hj, l k hk));
    }

-- three letters from base on
pub three_back : (base : ℕ) {last : ℕ} (a b c : ℕ) → 1 ≤ base → base ≤ 97 → last ≤ base + 30 → Within base last a → Within base last b → Within base last c
    → Holds base (packed base a b c) (a ∷ b ∷ c ∷ [])
three_back base a b c n m o ha hb hc =
    let e : a - base + base ≡ a = omega arith in
    let f : b - base + base ≡ b = omega arith in
    let g : c - base + base ≡ c = omega arith in
    rw (e, f, g) at (packed_back base (a - base) (b - base) (c - base) n m (omega arith) (omega arith) (omega arith))
