-- Bytes read as a field's value and written again are the same bytes. Assumes nothing.
use Prim.Native.Nat.{ℕ, zero, suc, ◌+◌, ◌*◌, ◌/◌, ◌%◌, ◌≤◌, ◌<◌}
use mathlib.Core.Path.{◌≡◌, refl, sym, ap, ◌∙◌}
use mathlib.Core.Bool.{Bool, true, false, not}
use mathlib.Core.List.{List, [], ◌∷◌}
use native.Mathlib.Omega.{arith}
use native.Mathlib.Decide.{dec_lt}
use lib.ListN.{length, get_or, drop, replicate, length-take, get_or-eq_default}
use lib.Seq.{get_or-take, get_or-drop}
use Rattle.laws.proofs.Lists.{elements}
use Rattle.record.specs.Table.{Bytes, part, le, all_zero, bit}
use Rattle.writing.specs.Writing.{bytes4}
use Rattle.writing.proofs.Zeros.{zeros_at}

zero_byte : (x : ℕ) → x ≡ 0 → x < 256
zero_byte x e = omega arith

pub part_bytes : (s : List ℕ) (a n : ℕ) → Bytes s → Bytes (part s a n)
part_bytes s a n h i =
    elim (dec_lt i n) [
      | yes l ↦ rw (get_or-take n (drop a s) i 0 l, get_or-drop a s i 0) (h (a + i))
      | no l ↦ zero_byte _ (get_or-eq_default (part s a n) 0 (omega (arith, length-take n (drop a s))))
    ]

pub zeros_bytes : (n : ℕ) → Bytes (replicate n 0)
zeros_bytes n i = zero_byte _ (zeros_at n i)

low_byte : (y b m : ℕ) → y ≡ b + 256 * m → b < 256 → y % 256 ≡ b
low_byte y b m e h = omega arith

four_back : (a b c d : ℕ) → a < 256 → b < 256 → c < 256 → d < 256 → bytes4 (le (a ∷ b ∷ c ∷ d ∷ [])) ≡ a ∷ b ∷ c ∷ d ∷ []
four_back a b c d ha hb hc hd =
    let x = le (a ∷ b ∷ c ∷ d ∷ []) in
    let q1 : x / 256 ≡ b + 256 * (c + 256 * d) = omega arith in
    let q2 : x / 65536 ≡ c + 256 * d = omega arith in
    let e0 : x % 256 ≡ a = omega arith in
    let e1 : x / 256 % 256 ≡ b = low_byte (x / 256) b (c + 256 * d) q1 hb in
    let e2 : x / 65536 % 256 ≡ c = low_byte (x / 65536) c d q2 hc in
    let e3 : x / 16777216 ≡ d = omega arith in
    cc

-- four bytes that are read as a word
pub word_back : (l : List ℕ) → length l ≡ 4 → Bytes l → bytes4 (le l) ≡ l
word_back l h g =
    let e = sym (elements 4 l h) in
    ap (λ (m : List ℕ). bytes4 (le m)) e ∙ four_back (get_or l 0 0) (get_or l 1 0) (get_or l 2 0) (get_or l 3 0) (g 0) (g 1) (g 2) (g 3) ∙ sym e

yes_one : (b : ℕ) → b ≤ 1 → bit (not (all_zero (b ∷ []))) ∷ [] ≡ b ∷ []
yes_one zero h = refl
yes_one (suc zero) h = refl
yes_one (suc (suc b)) h = absurd (omega arith)

-- a byte that is 0 or 1 and is read as yes or no
pub yes_back : (l : List ℕ) → length l ≡ 1 → get_or l 0 0 ≤ 1 → bit (not (all_zero l)) ∷ [] ≡ l
yes_back l h g = let e = sym (elements 1 l h) in ap (λ (m : List ℕ). bit (not (all_zero m)) ∷ []) e ∙ yes_one (get_or l 0 0) g ∙ sym e

pub bit_most : (b : Bool) → bit b ≤ 1
bit_most true = omega arith
bit_most false = omega arith
