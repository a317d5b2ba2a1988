-- What values a slot has: multiples of its unit, up to its most. Assumes nothing.
use Prim.Native.Nat.{ℕ, zero, suc, ◌+◌, ◌*◌, ◌%◌, ◌≤◌}
use mathlib.Core.Path.{◌≡◌, refl, ap}
use mathlib.Core.Bool.{Bool, true, ◌&&◌}
use mathlib.Core.List.{List, [], ◌∷◌}
use native.Mathlib.Omega.{arith}
use lib.Dec.{eqb, leb}
use lib.ListN.{get_or, set}
use borrow.Author.Tests.{eqb-true, leb-true}
use Rattle.laws.proofs.Tests.{and_both}
use Rattle.grammar.specs.Forms.{Form, Makes}
use Rattle.grammar.specs.Rows.{rows, kind_rows, word_rows, word_row, Has}
use Rattle.grammar.specs.Names.{Part, values_after}
use Rattle.grammar.specs.Made.{at}
use Rattle.grammar.proofs.Listed.{passes, row_passes}
use Rattle.grammar.proofs.Bits.{Bits}

-- the unit of each slot's values
abbrev units : List ℕ
units = 1 ∷ 1 ∷ 1 ∷ 1 ∷ 1 ∷ 64 ∷ 1 ∷ 1 ∷ 1 ∷ 1 ∷ 16 ∷ 1 ∷ 1 ∷ 4 ∷ 1 ∷ 1 ∷ 16 ∷ 1 ∷ 1 ∷ 1 ∷ 1 ∷ 4 ∷ 1 ∷ 1 ∷ 1 ∷ []

-- a bound of them
abbrev mosts : List ℕ
mosts =
    65535 ∷ 65535 ∷ 65535 ∷ 65535 ∷ 3 ∷ 128 ∷ 65535 ∷ 65535 ∷ 65535 ∷ 4 ∷ 32 ∷ 2 ∷
    3 ∷ 8 ∷ 3 ∷ 7 ∷ 32 ∷ 65535 ∷ 3 ∷ 3 ∷ 3 ∷ 8 ∷ 4 ∷ 4294967295 ∷ 4294967295 ∷ []

-- v is such a value of slot s
abbrev pub Fits : ℕ → ℕ → Type 0
Fits s v = Bits (get_or units s 1) (get_or mosts s 0) v

-- whether all values up to n fit
abbrev all_up_to : ℕ → ℕ → ℕ → Bool
all_up_to n unit most = eqb unit 1 && leb n most

-- whether the values of a form do
abbrev form_fits : ℕ → ℕ → Form → Bool
form_fits unit most (Form.number front back) = all_up_to 65535 unit most
form_fits unit most Form.density = all_up_to 65535 unit most
form_fits unit most Form.sides = all_up_to 4294967295 unit most
form_fits unit most Form.minor = all_up_to 4294967295 unit most
form_fits unit most Form.language = all_up_to 65535 unit most
form_fits unit most Form.region = all_up_to 65535 unit most
form_fits unit most (Form.word v w) = eqb (v % unit) 0 && leb v most

-- and those of a row do in its slot
abbrev row_fits : ℕ → Form → Bool
row_fits s f = form_fits (get_or units s 1) (get_or mosts s 0) f

-- every row of the table passes
all_fit : passes row_fits rows ≡ true
unfolding rows kind_rows word_rows word_row
all_fit = refl

module _ (unit most : ℕ) where
  -- one of them does
  up_to : (n v : ℕ) → all_up_to n unit most ≡ true → v ≤ n → Bits unit most v
  up_to n v e h =
      let q = and_both {a = eqb unit 1} {b = leb n most} e in
      let one : unit ≡ 1 = eqb-true unit 1 q.0 in
      record { whole = rw one (omega arith); small = omega (arith, leb-true n most q.1) }

  -- what a form makes has a value that fits
  makes_fits : (f : Form) (v : ℕ) (w : List ℕ) → form_fits unit most f ≡ true → Makes f v w → Bits unit most v
  makes_fits f v w e (Makes.number h) = up_to 65535 v e h.high
  makes_fits f v w e (Makes.density h g) = up_to 65535 v e h.high
  makes_fits f v w e (Makes.sides {n = n} {m = m} h k g) = up_to 4294967295 (n + m * 65536) e (omega arith)
  makes_fits f v w e (Makes.minor {n = n} {m = m} h k) = up_to 4294967295 (n + m * 65536) e (omega arith)
  makes_fits f v w e (Makes.two_letters h k) = up_to 65535 v e (omega arith)
  makes_fits f v w e (Makes.three_letters h k l g) = up_to 65535 v e (omega arith)
  makes_fits f v w e (Makes.two_capitals h k) = up_to 65535 v e (omega arith)
  makes_fits f v w e (Makes.three_digits h k l) = up_to 65535 v e (omega arith)
  makes_fits f v w e Makes.word =
      let q = and_both {a = eqb (v % unit) 0} {b = leb v most} e in record { whole = eqb-true (v % unit) 0 q.0; small = leb-true v most q.1 }

-- a part's value fits its slot
pub has_fits : {s v : ℕ} {w : List ℕ} → Has s v w → Fits s v
has_fits {s} {v} {w} h =
    makes_fits (get_or units s 1) (get_or mosts s 0) h.form v w (row_passes row_fits s h.form rows all_fit h.listed) h.makes

-- what holds of a value before it is replaced and of the new one holds after
set_either : (P : ℕ → Type 0) (l : List ℕ) (i j a : ℕ) → P (get_or l j 0) → (j ≡ i → P a) → P (get_or (set l i a) j 0)
set_either P [] i j a h f = h
set_either P (x ∷ l) zero zero a h f = f refl
set_either P (x ∷ l) zero (suc j) a h f = h
set_either P (x ∷ l) (suc i) zero a h f = h
set_either P (x ∷ l) (suc i) (suc j) a h f = set_either P l i j a h (λ e. f (ap suc e))

-- the values of parts fit
pub values_fit : (ps : List Part) (vs : List ℕ) → ((s : ℕ) → Fits s (at vs s)) → (s : ℕ) → Fits s (at (values_after vs ps) s)
values_fit [] vs f s = f s
values_fit (p ∷ ps) vs f s =
    values_fit ps (set vs p.slot p.value) (λ t. set_either (Fits t) vs p.slot t p.value (f t) (λ e. rw e (has_fits p.has))) s
