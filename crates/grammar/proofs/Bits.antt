-- What stands in the bits of a word: each part by itself, and in a byte each kind, whatever other kinds put there. Assumes nothing.
use Prim.Native.Nat.{ℕ, ◌+◌, ◌*◌, ◌/◌, ◌%◌, ◌≤◌, ◌<◌}
use mathlib.Core.Path.{◌≡◌}
use native.Mathlib.Omega.{arith}
use Rattle.kinds.specs.Input.{keys_hidden_of, nav_hidden_of}
use Rattle.kinds.specs.Mode.{ui_mode_of, ui_mode_night_of}
use Rattle.kinds.specs.Screen.{layout_dir_of, screen_size_of, screen_long_of, wide_color_gamut_of, hdr_of}
use Rattle.grammar.specs.Made.{word}
use Rattle.grammar.proofs.Masks.{mask_c0, mask_30, mask_0f, mask_0c, mask_03}

-- a multiple of a unit that is at most a number
pub record Bits (unit most v : ℕ) : Type 0 where
  pub whole : v % unit ≡ 0
  pub small : v ≤ most

-- two of them in one byte
pub plus : {u v m n a b : ℕ} → Bits u m a → Bits v n b → Bits 1 (m + n) (a + b)
plus h k = record { whole = omega arith; small = omega (arith, h.small, k.small) }

module _ {u v m n a b : ℕ} (ha : Bits u m a) (hb : Bits v n b) where
  -- two halves of a word
  pub halves : m < 65536 → n < 65536 → (word (a + b * 65536) % 65536 ≡ a) × (word (a + b * 65536) / 65536 ≡ b)
  halves h k = let p = ha.small in let q = hb.small in (omega arith, omega arith)

  -- their bytes
  pub half_bytes : m < 65536 → n < 65536
      → (word (a + b * 65536) % 256 ≡ a % 256) × (word (a + b * 65536) / 256 % 256 ≡ a / 256)
      × (word (a + b * 65536) / 65536 % 256 ≡ b % 256) × (word (a + b * 65536) / 16777216 ≡ b / 256)
  half_bytes h k = let p = ha.small in let q = hb.small in (omega arith, omega arith, omega arith, omega arith)

  -- two bytes
  pub pairs : m < 256 → n < 256 → (word (a + b * 256) % 256 ≡ a) × (word (a + b * 256) / 256 % 256 ≡ b)
  pairs h k = let p = ha.small in let q = hb.small in (omega arith, omega arith)

  -- two bytes, and a half
  pub thirds : {w l c : ℕ} → Bits w l c → m < 256 → n < 256 → l < 65536
      → (word (a + b * 256 + c * 65536) % 256 ≡ a) × (word (a + b * 256 + c * 65536) / 256 % 256 ≡ b) × (word (a + b * 256 + c * 65536) / 65536 ≡ c)
  thirds hc h k l = let p = ha.small in let q = hb.small in let r = hc.small in (omega arith, omega arith, omega arith)

  -- four bytes
  pub quarters : {w x l o c d : ℕ} → Bits w l c → Bits x o d → m < 256 → n < 256 → l < 256 → o < 256
      → (word (a + b * 256 + c * 65536 + d * 16777216) % 256 ≡ a) × (word (a + b * 256 + c * 65536 + d * 16777216) / 256 % 256 ≡ b)
      × (word (a + b * 256 + c * 65536 + d * 16777216) / 65536 % 256 ≡ c) × (word (a + b * 256 + c * 65536 + d * 16777216) / 16777216 ≡ d)
  quarters hc hd h k l o = let p = ha.small in let q = hb.small in let r = hc.small in let s = hd.small in (omega arith, omega arith, omega arith, omega arith)

-- the three kinds of the screen's layout
module _ {a b c : ℕ} (ha : Bits 64 128 a) (hb : Bits 1 4 b) (hc : Bits 16 32 c) where
  pub layout_dir_lem : layout_dir_of (a + b + c) ≡ layout_dir_of a
  layout_dir_lem = rw (mask_c0 (a + b + c) a (omega arith) (omega arith) (omega arith))

  pub screen_size_lem : screen_size_of (a + b + c) ≡ screen_size_of b
  screen_size_lem = rw (mask_0f (a + b + c) b (omega arith) (omega arith) (omega arith))

  pub screen_long_lem : screen_long_of (a + b + c) ≡ screen_long_of c
  screen_long_lem = rw (mask_30 (a + b + c) c (omega arith) (omega arith) (omega arith))

-- the two of the UI mode
module _ {a b : ℕ} (ha : Bits 1 7 a) (hb : Bits 16 32 b) where
  pub ui_mode : ui_mode_of (a + b) ≡ ui_mode_of a
  ui_mode = rw (mask_0f (a + b) a (omega arith) (omega arith) (omega arith))

  pub night : ui_mode_night_of (a + b) ≡ ui_mode_night_of b
  night = rw (mask_30 (a + b) b (omega arith) (omega arith) (omega arith))

-- the two of the color mode, and the two of the input flags
module _ {a b : ℕ} (ha : Bits 1 3 a) (hb : Bits 4 8 b) where
  pub gamut : wide_color_gamut_of (a + b) ≡ wide_color_gamut_of a
  gamut = rw (mask_03 (a + b) a (omega arith) (omega arith) (omega arith))

  pub hdr : hdr_of (a + b) ≡ hdr_of b
  hdr = rw (mask_0c (a + b) b (omega arith) (omega arith) (omega arith))

  pub keys_hidden_lem : keys_hidden_of (a + b) ≡ keys_hidden_of a
  keys_hidden_lem = rw (mask_03 (a + b) a (omega arith) (omega arith) (omega arith))

  pub nav_hidden_lem : nav_hidden_of (a + b) ≡ nav_hidden_of b
  nav_hidden_lem = rw (mask_0c (a + b) b (omega arith) (omega arith) (omega arith))
