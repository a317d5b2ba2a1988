-- The bytes of a text as a line shows them, one by one and all. Assumes nothing.
use Prim.Native.Nat.{ℕ, suc, ◌+◌, ◌-◌, ◌*◌, ◌/◌, ◌%◌, ◌≤◌, ◌<◌}
use mathlib.Core.Path.{◌≡◌, refl, sym}
use mathlib.Core.Bool.{Bool, true, false, not, cond}
use mathlib.Core.List.{List, [], ◌∷◌, ◌++◌, append_assoc, append-nil}
use native.Mathlib.Omega.{arith}
use native.Mathlib.Decide.{dec_le}
use lib.Dec.{eqb, leb}
use lib.ListN.{length, get_or, take, length-append}
use lib.Seq.{take-suc, take_all}
use borrow.Author.Tests.{le-leb, lt-leb}
use Rattle.std.specs.Prelude.{count_by}
use Rattle.std.proofs.lemmas.List.Sums.{sum_by-cons}
use Rattle.laws.proofs.Choice.{chosen}
use Rattle.buffer.specs.Ascii.{ascii}
use Rattle.buffer.specs.Put.{Put}
use Rattle.buffer.proofs.Putting.{put_put}
use Rattle.record_line.specs.RecordLine.{hex_digit, visible, escaped, escaped_all, shown_words}

-- the three tests of a visible byte
pub below : (b : ℕ) → b < 0x21 → false ≡ visible b
unfolding visible
below b h = rw (lt-leb 0x21 b h)

pub above : (b : ℕ) → 0x21 ≤ b → 0x7E < b → false ≡ visible b
unfolding visible
above b h g = rw (le-leb 0x21 b h, lt-leb b 0x7E g)

pub between : (b : ℕ) → 0x21 ≤ b → b ≤ 0x7E → not (eqb b 37) ≡ visible b
unfolding visible
between b h g = rw (le-leb 0x21 b h, le-leb b 0x7E g)

-- a byte as it is, and one that isn't visible
pub escaped_same : (b : ℕ) → true ≡ visible b → escaped b ≡ b ∷ []
unfolding escaped
escaped_same b h = rw (← h)

pub escaped_hex : (b : ℕ) → false ≡ visible b → escaped b ≡ (37 ∷ []) ++ (hex_digit (b / 16) ∷ []) ++ (hex_digit (b % 16) ∷ [])
unfolding escaped
escaped_hex b h = rw (← h)

-- the bytes of two texts in a row
pub escaped_append : (u v : List ℕ) → escaped_all (u ++ v) ≡ escaped_all u ++ escaped_all v
unfolding escaped_all
escaped_append [] v = refl
escaped_append (b ∷ u) v = rw (escaped_append u v) (sym (append_assoc (escaped b) (escaped_all u) (escaped_all v)))

-- one byte more
pub escaped_turn : {o : List ℕ} {at : ℕ} (w : List ℕ) {m : List ℕ} {a : ℕ} {n : List ℕ} {r : ℕ} (j : ℕ)
    → j < length w → Put o at (escaped_all (take j w)) m a → Put m a (escaped (get_or w j 0)) n r → Put o at (escaped_all (take (suc j) w)) n r
unfolding escaped_all
escaped_turn w j h p q = rw (take-suc w j 0 h, escaped_append (take j w) (get_or w j 0 ∷ []), append-nil) (put_put p q)

-- and all of them
pub escaped_all_lem : {o : List ℕ} {at : ℕ} (w : List ℕ) {n : List ℕ} {r : ℕ} (j : ℕ)
    → length w ≤ j → Put o at (escaped_all (take j w)) n r → Put o at (escaped_all w) n r
escaped_all_lem w j h p = rw take_all at p

-- a byte is shown in three at the most, and in one at the least
pub byte_long : (b : ℕ) → length (escaped b) ≤ 3
unfolding escaped
byte_long b = chosen (λ (w : List ℕ). length w ≤ 3) (visible b) (omega arith) (omega arith)

byte_least : (b : ℕ) → 1 ≤ length (escaped b)
unfolding escaped
byte_least b = chosen (λ (w : List ℕ). 1 ≤ length w) (visible b) (omega arith) (omega arith)

pub escaped_long : (w : List ℕ) → length (escaped_all w) ≤ 3 * length w
unfolding escaped_all
escaped_long [] = omega arith
escaped_long (b ∷ w) = omega (arith, length-append (escaped b) (escaped_all w), byte_long b, escaped_long w)

pub escaped_least : (w : List ℕ) → length w ≤ length (escaped_all w)
unfolding escaped_all
escaped_least [] = omega arith
escaped_least (b ∷ w) = omega (arith, length-append (escaped b) (escaped_all w), byte_least b, escaped_least w)

-- a byte that doesn't stand as it is takes two more
escaped_count : (b : ℕ) → length (escaped b) ≡ 1 + 2 * cond (not (visible b)) 1 0
unfolding escaped
escaped_count b = chosen_not (visible b)
  where
    chosen_not : (t : Bool) → length (cond t (b ∷ []) (37 ∷ hex_digit (b / 16) ∷ hex_digit (b % 16) ∷ [])) ≡ 1 + 2 * cond (not t) 1 0
    chosen_not true = refl
    chosen_not false = refl

pub hidden_count : (w : List ℕ) → length (escaped_all w) ≡ length w + 2 * count_by (λ b. not (visible b)) w
unfolding escaped_all
hidden_count [] = refl
hidden_count (b ∷ w) =
    let one : count_by (λ c. not (visible c)) (b ∷ w) ≡ cond (not (visible b)) 1 0 + count_by (λ c. not (visible c)) w =
    sum_by-cons (λ c. cond (not (visible c)) 1 0) b w in
    omega (arith, length-append (escaped b) (escaped_all w), escaped_count b, hidden_count w)

-- a text that takes n bytes, and two for each of k, by the room that the n leave
pub hidden_fits : (k n m room : ℕ) → m ≡ n + 2 * k → n ≤ room → leb k ((room - n) / 2) ≡ leb m room
hidden_fits k n m room e h =
    elim (dec_le m room) [
      | yes l ↦ let g : k ≤ (room - n) / 2 = omega arith in rw (le-leb m room l, le-leb k ((room - n) / 2) g)
      | no l ↦ let f : room < m = omega arith in let g : (room - n) / 2 < k = omega arith in rw (lt-leb m room f, lt-leb k ((room - n) / 2) g)
    ]

-- a text of k bytes at the most, with two for an empty one
pub shown_long : (w : List ℕ) (k : ℕ) → length w ≤ k → 1 ≤ k → length (shown_words w) ≤ 3 * k
unfolding shown_words
shown_long [] k h g = omega arith
shown_long (b ∷ w) k h g = omega (arith, escaped_long (b ∷ w))

-- an empty text, and one that isn't
pub shown_none : (w : List ℕ) → length w ≡ 0 → shown_words w ≡ ascii "%-"
unfolding shown_words
shown_none [] h = refl
shown_none (b ∷ w) h = absurd (omega arith)

pub shown_some : (w : List ℕ) → (length w ≡ 0 → ⊥) → shown_words w ≡ escaped_all w
unfolding shown_words
shown_some [] h = absurd (h refl)
shown_some (b ∷ w) h = refl
