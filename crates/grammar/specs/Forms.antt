-- 02, K5: the forms that a part of a directory name may have, each with the parts that it makes and the value that each part puts.
-- Assumes nothing.
use Rattle.std.specs.Prelude.{ℕ, ◌+◌, ◌*◌, ◌-◌, ◌/◌, ◌%◌, ◌≤◌, ◌≡◌, List, [], ◌∷◌, ◌++◌}
use Rattle.buffer.specs.Ascii.{ascii}
use Rattle.buffer.specs.Decimal.{decimal}
use Rattle.kinds.specs.Screen.{density_of}
use Rattle.kinds.specs.declared.screen.Density.{Density}

-- n is one of lo to hi
pub record Within (lo hi n : ℕ) : Type 0 where
  pub low : lo ≤ n
  pub high : n ≤ hi

-- two letters, as the two bytes of a language or a region
abbrev pub letter_pair : ℕ → ℕ → ℕ
letter_pair a b = a + b * 256

-- three letters, counted from base, of five bits each; the high bit of the first byte is set
abbrev pub packed : ℕ → ℕ → ℕ → ℕ → ℕ
packed base a b c = (128 + (c - base) * 4 + (b - base) / 8) + ((a - base) + (b - base) % 8 * 32) * 256

-- a form of parts: a number between two words; a density that has no word; both sides in pixels; a version with a minor one; a language; a
-- region; one word that puts one value
pub data Form : Type 0 where
  number : List ℕ → List ℕ → Form
  density : Form
  sides : Form
  minor : Form
  language : Form
  region : Form
  word : ℕ → List ℕ → Form

-- a form makes the part w, which puts the value v
pub data Makes : Form → ℕ → List ℕ → Type 0 where
  number : {front back : List ℕ} {n : ℕ} → Within 1 65535 n → Makes (Form.number front back) n (front ++ (decimal n ++ back))
  density : {n : ℕ} → Within 1 65535 n → density_of n ≡ Density.Unknown n → Makes Form.density n (decimal n ++ ascii "dpi")
  sides : {n m : ℕ} → Within 0 65535 n → Within 0 65535 m → 1 ≤ n + m → Makes Form.sides (n + m * 65536) (decimal n ++ (ascii "x" ++ decimal m))
  minor : {n m : ℕ} → Within 0 65535 n → Within 1 65535 m → Makes Form.minor (n + m * 65536) (ascii "v" ++ (decimal n ++ (ascii "." ++ decimal m)))
  two_letters : {a b : ℕ} → Within 97 122 a → Within 97 122 b → Makes Form.language (letter_pair a b) (a ∷ b ∷ [])
  three_letters : {a b c : ℕ} → Within 97 122 a → Within 97 122 b → Within 97 122 c → (a ∷ b ∷ c ∷ [] ≡ ascii "car" → ⊥) → Makes Form.language (packed 97 a b c) (a ∷ b ∷ c ∷ [])
  two_capitals : {a b : ℕ} → Within 65 90 a → Within 65 90 b → Makes Form.region (letter_pair a b) (ascii "r" ++ (a ∷ b ∷ []))
  three_digits : {a b c : ℕ} → Within 48 57 a → Within 48 57 b → Within 48 57 c → Makes Form.region (packed 48 a b c) (ascii "r" ++ (a ∷ b ∷ c ∷ []))
  word : {v : ℕ} {w : List ℕ} → Makes (Form.word v w) v w
