-- What every part of the grammar is: it puts a value that a word holds, its slot is one of the twenty-five, it isn't empty, and it has no
-- dash. Assumes nothing.
use Prim.Native.Nat.{ℕ, zero, suc, ◌+◌, ◌/◌, ◌%◌, ◌≤◌}
use mathlib.Core.Path.{◌≡◌, refl}
use mathlib.Core.Bool.{Bool, true, not, ◌&&◌}
use mathlib.Core.List.{List, [], ◌∷◌, ◌++◌}
use native.Mathlib.Omega.{arith}
use native.Mathlib.Decide.{dec_lt}
use lib.Dec.{eqb, leb}
use lib.ListN.{length, length-append}
use borrow.Author.Tests.{eqb-false, leb-true, not-true}
use Rattle.laws.proofs.Tests.{and_both}
use Rattle.buffer.specs.Ascii.{ascii}
use Rattle.buffer.specs.Decimal.{decimal}
use Rattle.buffer.proofs.Digits.{decimal_one, decimal_more}
use Rattle.grammar.specs.Forms.{Form, Makes, Within}
use Rattle.grammar.specs.Rows.{rows, kind_rows, word_rows, word_row, Has}
use Rattle.grammar.proofs.Listed.{passes, row_passes}

-- no byte is a dash
abbrev pub NoDash : List ℕ → Type 0
NoDash [] = Unit {0}
NoDash (b ∷ w) = (b ≡ 45 → ⊥) × NoDash w

-- what a part is
pub record Sized (s v : ℕ) (w : List ℕ) : Type 0 where
  pub valued : 1 ≤ v
  pub small : v ≤ 4294967295
  pub placed : s ≤ 24
  pub some : 1 ≤ length w
  pub undashed : NoDash w

-- two lists without a dash have none together
pub no_dash_append : (u v : List ℕ) → NoDash u → NoDash v → NoDash (u ++ v)
no_dash_append [] v h k = k
no_dash_append (b ∷ u) v h k = (h.0, no_dash_append u v h.1 k)

-- no number has a dash: nor has one of at most k
no_dash_up_to : (k n : ℕ) → n ≤ k → NoDash (decimal n)
no_dash_up_to zero n h = rw (decimal_one n (omega arith)) (λ e. omega arith, tt)
no_dash_up_to (suc k) n h =
    elim (dec_lt n 10) [
      | yes l ↦ rw (decimal_one n l) (λ e. omega arith, tt)
      | no l ↦
          rw (decimal_more n (omega arith))
          (no_dash_append (decimal (n / 10)) ((48 + n % 10) ∷ []) (no_dash_up_to k (n / 10) (omega arith)) (λ e. omega arith, tt))
    ]

pub no_dash_decimal : (n : ℕ) → NoDash (decimal n)
no_dash_decimal n = no_dash_up_to n n (omega arith)

-- whether no byte is a dash
abbrev undashed : List ℕ → Bool
undashed [] = true
undashed (b ∷ w) = not (eqb b 45) && undashed w

-- then none is
no_dash_by : (w : List ℕ) → undashed w ≡ true → NoDash w
no_dash_by [] e = tt
no_dash_by (b ∷ w) e = let q = and_both {a = not (eqb b 45)} {b = undashed w} e in (eqb-false b 45 (not-true (eqb b 45) q.0), no_dash_by w q.1)

-- what a form says of its parts by itself: of its fixed words, and of a word's value
abbrev sized_form : Form → Bool
sized_form (Form.number front back) = leb 1 (length front) && (undashed front && undashed back)
sized_form (Form.word v w) = (leb 1 v && leb v 4294967295) && (leb 1 (length w) && undashed w)
sized_form Form.density = true
sized_form Form.sides = true
sized_form Form.minor = true
sized_form Form.language = true
sized_form Form.region = true

-- and of its slot
abbrev sized_row : ℕ → Form → Bool
sized_row s f = leb s 24 && sized_form f

-- every row of the table passes
all_sized : passes sized_row rows ≡ true
unfolding rows kind_rows word_rows word_row
all_sized = refl

-- so do the slot and the form of every part
row_sized : {s v : ℕ} {w : List ℕ} (h : Has s v w) → (leb s 24 ≡ true) × (sized_form h.form ≡ true)
row_sized {s} h = and_both {a = leb s 24} {b = sized_form h.form} (row_passes sized_row s h.form rows all_sized h.listed)

module _ (s : ℕ) (p : s ≤ 24) where
  is_sized : {v : ℕ} {w : List ℕ} → 1 ≤ v → v ≤ 4294967295 → 1 ≤ length w → NoDash w → Sized s v w
  is_sized a b c d = record { valued = a; small = b; placed = p; some = c; undashed = d }

  -- a number between two words
  number_sized : (n : ℕ) (front back : List ℕ) → sized_form (Form.number front back) ≡ true → Within 1 65535 n → Sized s n (front ++ (decimal n ++ back))
  number_sized n front back e h =
      let q = and_both {a = leb 1 (length front)} {b = undashed front && undashed back} e in
      let d = and_both {a = undashed front} {b = undashed back} q.1 in
      is_sized h.low (omega arith) (omega (arith, leb-true 1 (length front) q.0, length-append front (decimal n ++ back)))
      (no_dash_append front (decimal n ++ back) (no_dash_by front d.0) (no_dash_append (decimal n) back (no_dash_decimal n) (no_dash_by back d.1)))

  -- a word
  word_sized : (v : ℕ) (w : List ℕ) → sized_form (Form.word v w) ≡ true → Sized s v w
  word_sized v w e =
      let q = and_both {a = leb 1 v && leb v 4294967295} {b = leb 1 (length w) && undashed w} e in
      let n = and_both {a = leb 1 v} {b = leb v 4294967295} q.0 in
      let d = and_both {a = leb 1 (length w)} {b = undashed w} q.1 in
      is_sized (leb-true 1 v n.0) (leb-true v 4294967295 n.1) (leb-true 1 (length w) d.0) (no_dash_by w d.1)

  -- whatever a form makes
  makes_sized : (f : Form) (v : ℕ) (w : List ℕ) → sized_form f ≡ true → Makes f v w → Sized s v w
  makes_sized f v w e (Makes.number {front = front} {back = back} {n = n} h) = number_sized n front back e h
  makes_sized f v w e (Makes.density {n = n} h g) =
      is_sized h.low (omega arith) (omega (arith, length-append (decimal n) (ascii "dpi")))
      (no_dash_append (decimal n) (ascii "dpi") (no_dash_decimal n) (no_dash_by (ascii "dpi") refl))
  makes_sized f v w e (Makes.sides {n = n} {m = m} h k g) =
      is_sized (omega arith) (omega arith) (omega (arith, length-append (decimal n) (ascii "x" ++ decimal m), length-append (ascii "x") (decimal m)))
      (no_dash_append (decimal n) (ascii "x" ++ decimal m) (no_dash_decimal n) (λ z. omega arith, no_dash_decimal m))
  makes_sized f v w e (Makes.minor {n = n} {m = m} h k) =
      is_sized (omega arith) (omega arith) (omega arith)
      (λ z. omega arith, no_dash_append (decimal n) (ascii "." ++ decimal m) (no_dash_decimal n) (λ z. omega arith, no_dash_decimal m))
  makes_sized f v w e (Makes.two_letters {a = a} {b = b} h k) =
      is_sized (omega arith) (omega arith) (omega arith) (λ z. omega arith, (λ z. omega arith, tt))
  makes_sized f v w e (Makes.three_letters {a = a} {b = b} {c = c} h k l g) =
      is_sized (omega arith) (omega arith) (omega arith) (λ z. omega arith, (λ z. omega arith, (λ z. omega arith, tt)))
  makes_sized f v w e (Makes.two_capitals {a = a} {b = b} h k) =
      is_sized (omega arith) (omega arith) (omega arith) (λ z. omega arith, (λ z. omega arith, (λ z. omega arith, tt)))
  makes_sized f v w e (Makes.three_digits {a = a} {b = b} {c = c} h k l) =
      is_sized (omega arith) (omega arith) (omega arith) (λ z. omega arith, (λ z. omega arith, (λ z. omega arith, (λ z. omega arith, tt))))
  makes_sized f v w e Makes.word = word_sized v w e

-- every part is what Sized says
pub sized : {s v : ℕ} {w : List ℕ} → Has s v w → Sized s v w
sized {s} {v} {w} h = let q = row_sized h in makes_sized s (leb-true s 24 q.0) h.form v w q.1 h.makes

-- its value is a word's
pub fits : {s v : ℕ} {w : List ℕ} → Has s v w → v ≤ 4294967295
fits h = (sized h).small
