-- Marks and their word fix each other: two bits each, at their places, and nothing above them. Assumes nothing.
use Prim.Native.Nat.{ℕ, zero, suc, ◌+◌, ◌*◌, ◌/◌, ◌%◌, ◌^◌, ◌≤◌, ◌<◌}
use mathlib.Core.Path.{◌≡◌, refl, sym, ap, ◌∙◌}
use mathlib.Core.Bool.{Bool, not, cond}
use mathlib.Core.List.{List, [], ◌∷◌}
use native.Mathlib.Nat.{pow-suc, pow-succ', zero-div, div-one, div-div-eq-div-mul, not-suc-le-zero, le_of_suc-le-suc}
use native.Mathlib.Numerals.{add-one}
use native.Mathlib.Omega.{arith}
use lib.Dec.{T, eqb}
use lib.ListN.{length, get_or, drop, length-drop}
use lib.Seq.{drop-cons}
use borrow.Author.Tests.{eqb-true, eqb-false, not-true}
use Rattle.laws.proofs.Tests.{passed}
use Rattle.laws.proofs.Choice.{chosen}
use Rattle.laws.proofs.Below.{in_row}
use Rattle.mark.specs.declared.Mark.{Mark}
use Rattle.mark.specs.Word.{bits_of, mark_of_bits, in_one_word, marks_in}
use Rattle.mark.specs.Claims.{bits_at, TwoBitsEach}

-- two bits
pub bits_below : (m : Mark) → bits_of m < 4
bits_below Mark.Absent = omega arith
bits_below Mark.Blank = omega arith
bits_below Mark.Filled = omega arith
bits_below Mark.Unknown = omega arith

-- a mark comes back from its bits
pub bits_back : (m : Mark) → mark_of_bits (bits_of m) ≡ m
bits_back Mark.Absent = refl
bits_back Mark.Blank = refl
bits_back Mark.Filled = refl
bits_back Mark.Unknown = refl

-- and two bits from their mark
mark_back : (b : ℕ) → b < 4 → bits_of (mark_of_bits b) ≡ b
mark_back b h = eqb-true (bits_of (mark_of_bits b)) b (in_row 4 (λ n. eqb (bits_of (mark_of_bits n)) n) tt b h)

-- whichever is chosen of three marks that have other bits than m, it isn't m
other : (m x : Mark) → T (not (eqb (bits_of x) (bits_of m))) → x ≡ m → ⊥
other m x t e = eqb-false (bits_of x) (bits_of m) (not-true _ (passed _ t)) (ap bits_of e)

pub chosen_other : (m x y z : Mark) (a b : Bool)
    → T (not (eqb (bits_of x) (bits_of m))) → T (not (eqb (bits_of y) (bits_of m))) → T (not (eqb (bits_of z) (bits_of m)))
    → cond a x (cond b y z) ≡ m → ⊥
chosen_other m x y z a b p q r = chosen (λ n. n ≡ m → ⊥) a (other m x p) (chosen (λ n. n ≡ m → ⊥) b (other m y q) (other m z r))

-- the lowest mark of a word, and the others two bits lower
module _ (m : Mark) (rest : ℕ) where
  pub lowest : (bits_of m + 4 * rest) % 4 ≡ bits_of m
  lowest = let b = bits_below m in omega arith

  pub others : (bits_of m + 4 * rest) / 4 ≡ rest
  others = let b = bits_below m in omega arith

-- marks come back from their word
pub marks_back : (ms : List Mark) → marks_in (length ms) (in_one_word ms) ≡ ms
marks_back [] = refl
marks_back (m ∷ ms) = rw (lowest m (in_one_word ms), others m (in_one_word ms), bits_back m, marks_back ms)

-- a word of n marks comes back from them
pub word_back : (n word : ℕ) → word < 4 ^ n → in_one_word (marks_in n word) ≡ word
word_back zero word h = omega arith
word_back (suc n) word h =
    let p = pow-suc 4 n in
    let more = word_back n (word / 4) (omega arith) in
    let low = mark_back (word % 4) (omega arith) in
    omega arith

-- n marks are below 4^n
pub word_below : (n : ℕ) (ms : List Mark) → length ms ≤ n → in_one_word ms < 4 ^ n
word_below zero [] h = omega arith
word_below zero (m ∷ ms) h = absurd (not-suc-le-zero h)
word_below (suc n) [] h = let p = pow-suc 4 n in let more = word_below n [] (omega arith) in omega arith
word_below (suc n) (m ∷ ms) h =
    let p = pow-suc 4 n in
    let b = bits_below m in
    let more = word_below n ms (le_of_suc-le-suc h) in
    omega arith

-- the word of the marks behind mark i has room for one more, which is mark i
module _ (ms : List Mark) (i word : ℕ) (h : i < length ms) (e : word ≡ in_one_word (drop (i + 1) ms)) where
  pub word_room : length ms ≤ 14 → word < 67108864
  word_room l = rw e (word_below 13 (drop (i + 1) ms) (omega (arith, length-drop (i + 1) ms)))

  pub word_turn : word * 4 + bits_of (get_or ms i Mark.Absent) ≡ in_one_word (drop i ms)
  word_turn = let n = ap in_one_word (drop-cons ms i Mark.Absent h) in let w = e ∙ ap (λ (k : ℕ). in_one_word (drop k ms)) (add-one i) in omega arith

-- two bits higher
pub higher : (word i : ℕ) → word / 4 / 4 ^ i ≡ word / 4 ^ suc i
higher word i = div-div-eq-div-mul word 4 (4 ^ i) ∙ ap (λ (p : ℕ). word / p) (sym (pow-succ' 4 i))

-- each mark's bits are at its place, and 0 past the last
pub bits_at_lem : (ms : List Mark) (i : ℕ) → bits_at (in_one_word ms) i ≡ bits_of (get_or ms i Mark.Absent)
bits_at_lem [] i = rw (zero-div (4 ^ i))
bits_at_lem (m ∷ ms) zero = rw (div-one (bits_of m + 4 * in_one_word ms)) (lowest m (in_one_word ms))
bits_at_lem (m ∷ ms) (suc i) = rw (← higher, others m (in_one_word ms)) (bits_at_lem ms i)

pub two_bits_each : TwoBitsEach
two_bits_each ms i h = bits_at_lem ms i

-- mark i of a word is that of the bits there
pub mark_at : (n word i : ℕ) → i < n → get_or (marks_in n word) i Mark.Absent ≡ mark_of_bits (bits_at word i)
mark_at zero word i h = absurd (not-suc-le-zero h)
mark_at (suc n) word zero h = ap (λ (w : ℕ). mark_of_bits (w % 4)) (sym (div-one word))
mark_at (suc n) word (suc i) h = mark_at n (word / 4) i (le_of_suc-le-suc h) ∙ ap (λ (w : ℕ). mark_of_bits (w % 4)) (higher word i)
