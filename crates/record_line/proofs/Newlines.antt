-- The line of a record is ended by one newline, and has no other. Assumes nothing.
use Prim.Native.Nat.{ℕ, zero, suc, ◌/◌, ◌%◌, ◌≤◌}
use mathlib.Core.Path.{◌≡◌, refl}
use mathlib.Core.Bool.{Bool, true, false, cond, not}
use mathlib.Core.List.{List, [], ◌∷◌, ◌++◌, map}
use native.Mathlib.Omega.{arith}
use native.Mathlib.Decide.{dec_lt, ℕ_discrete}
use lib.Dec.{T, eqb}
use lib.ListN.{get_or-eq_default}
use borrow.Author.Tests.{not-true, eqb-false, lt-ltb, le-ltb, eq-eqb, ne_eqb}
use Rattle.laws.proofs.Choice.{chosen}
use Rattle.laws.proofs.Below.{in_row}
use Rattle.buffer.specs.Ascii.{ascii}
use Rattle.buffer.specs.Decimal.{digits, decimal}
use Rattle.reading.specs.Reading.{aged, size_of, taken}
use Rattle.mark.specs.declared.Mark.{Mark}
use Rattle.mark.specs.Word.{letter_of, marks_in, letters_of}
use Rattle.marking.specs.Marks.{held_back, word_in, letters_in}
use Rattle.places.specs.Places.{text_of}
use Rattle.record_line.specs.RecordLine.{hex_digits, hex_digit, visible, escaped, escaped_all, shown_words, shown_unless, space, laid_out, record_line}
use Rattle.record_line.specs.Ended.{Unbroken, none, more, Ended}
use Rattle.record_line.proofs.Escapes.{below, escaped_same, escaped_hex}

-- words in a row
pub both : {u v : List ℕ} → Unbroken u → Unbroken v → Unbroken (u ++ v)
both none q = q
both (more h p) q = more h (both p q)

-- one byte
one : {b : ℕ} → (b ≡ 10 → ⊥) → Unbroken (b ∷ [])
one h = more h none

-- a fixed word, by a computed test
abbrev pub clean : List ℕ → Bool
clean [] = true
clean (b ∷ w) = cond (eqb b 10) false (clean w)

pub fixed : (w : List ℕ) → T (clean w) → Unbroken w
fixed [] t = none
fixed (b ∷ w) t =
    elim (ℕ_discrete b 10) [
      | yes e ↦ absurd (rw (eq-eqb b 10 e) at t)
      | no e ↦ more e (fixed w (rw (ne_eqb b 10 e) at t))
    ]

-- digits
digits_unbroken : (k n : ℕ) → n ≤ k → Unbroken (digits k n)
unfolding digits
digits_unbroken zero n h = one (λ e. omega arith)
digits_unbroken (suc k) n h =
    elim (dec_lt n 10) [
      | yes l ↦ rw (lt-ltb n 10 l) (one (λ e. omega arith))
      | no l ↦ let g : 10 ≤ n = omega arith in rw (le-ltb n 10 g) (both (digits_unbroken k (n / 10) (omega arith)) (one (λ e. omega arith)))
    ]

-- a number
pub number : (n : ℕ) → Unbroken (decimal n)
unfolding decimal
number n = digits_unbroken n n (omega arith)

-- a mark's letter, and the letters
mark : (m : Mark) → letter_of m ≡ 10 → ⊥
mark Mark.Unknown e = omega arith
mark Mark.Absent e = omega arith
mark Mark.Blank e = omega arith
mark Mark.Filled e = omega arith

marked : (ms : List Mark) → Unbroken (map letter_of ms)
marked [] = none
marked (m ∷ ms) = more (mark m) (marked ms)

marks : (a t : ℕ) (s : List ℕ) → Unbroken (letters_in a t s)
unfolding letters_in letters_of
marks a t s = marked (marks_in 14 (word_in a t s))

-- a byte that is shown: as it is, it is past 0x20; else by its digits
digit : (n : ℕ) → hex_digit n ≡ 10 → ⊥
digit n e =
    elim (dec_lt n 16) [
      | yes h ↦ eqb-false (hex_digit n) 10 (not-true _ (in_row 16 (λ m. not (eqb (hex_digit m) 10)) tt n h)) e
      | no h ↦ let z = get_or-eq_default hex_digits 0 {n = n} (omega arith) in omega arith
    ]

shown_byte : (b : ℕ) → Unbroken (escaped b)
shown_byte b =
    elim (dec_lt b 0x21) [
      | yes h ↦ rw (escaped_hex b (below b h)) hex
      | no h ↦ by (visible b) refl (λ e. omega arith)
    ] where
      hex : Unbroken ((37 ∷ []) ++ (hex_digit (b / 16) ∷ []) ++ (hex_digit (b % 16) ∷ []))
      hex = both (both (fixed (37 ∷ []) tt) (one (digit (b / 16)))) (one (digit (b % 16)))

      by : (t : Bool) → t ≡ visible b → (b ≡ 10 → ⊥) → Unbroken (escaped b)
      by true e h = rw (escaped_same b e) (one h)
      by false e h = rw (escaped_hex b e) hex

shown_bytes : (w : List ℕ) → Unbroken (escaped_all w)
unfolding escaped_all
shown_bytes [] = none
shown_bytes (b ∷ w) = both (shown_byte b) (shown_bytes w)

words : (w : List ℕ) → Unbroken (shown_words w)
unfolding shown_words
words [] = fixed (ascii "%-") tt
words (b ∷ w) = shown_bytes (b ∷ w)

text : (held : Bool) (w : List ℕ) → Unbroken (shown_unless held w)
text held w = chosen Unbroken held (fixed (ascii "%!") tt) (words w)

-- what stands between the parts of a line
pub gap : Unbroken space
gap = fixed space tt

-- the line of a record
pub record_ended : (a i p : ℕ) (r : List ℕ) → Ended (record_line a i p r)
unfolding laid_out
record_ended a i p r = record {
  front = _;
  is = refl;
  unbroken =
      both (both (both (both (both (both (both (both (both (both (number i) gap) (number p)) gap) (number (size_of r))) gap) (marks a (taken r) r)) gap)
      (text (held_back a r) (text_of (aged a r)))) gap) (number _);
}
