-- How far a name is read before it is refused: no part is longer than 12 bytes, and slots rise. Assumes nothing.
use Prim.Native.Nat.{ℕ, suc, ◌+◌, ◌*◌, ◌≤◌}
use mathlib.Core.Path.{◌≡◌, refl, ap}
use mathlib.Core.List.{List, [], ◌∷◌, ◌++◌}
use mathlib.Core.Bool.{Bool, true, cond, not}
use native.Mathlib.Omega.{arith}
use lib.Dec.{leb, eqb, lit≤}
use lib.ListN.{length, set, length-append}
use borrow.Author.Tests.{eqb-true, leb-true}
use Rattle.laws.proofs.Choice.{chosen_by}
use Rattle.laws.proofs.Tests.{and_both}
use Rattle.buffer.specs.Ascii.{ascii}
use Rattle.buffer.specs.Decimal.{decimal}
use Rattle.buffer.proofs.Digits.{decimal_long}
use Rattle.grammar.specs.Forms.{Form, Makes, Within}
use Rattle.grammar.specs.Rows.{rows, kind_rows, word_rows, word_row, Has}
use Rattle.grammar.specs.Slots as slot
use Rattle.grammar.proofs.Listed.{passes, row_passes}
use Rattle.parts.specs.declared.Found.{Found}
use Rattle.parts.specs.Recognised.{recognised}
use Rattle.names.specs.Reading.{parts_of, Read, may, step, read_parts, read_name}
use Rattle.names.proofs.Exact.{sound}
use Rattle.names.proofs.Reading.{kept, may_value, may_slot}

-- whether the fixed words of a form are short
abbrev short_form : ℕ → Form → Bool
short_form s (Form.number front back) = leb (length front + length back) 7
short_form s (Form.word v w) = leb (length w) 12
short_form s Form.density = true
short_form s Form.sides = true
short_form s Form.minor = true
short_form s Form.language = true
short_form s Form.region = true

-- every row's are
all_short : passes short_form rows ≡ true
unfolding rows kind_rows word_rows word_row
all_short = refl

-- a number of 16 bits has five digits at most
five : {lo n : ℕ} → Within lo 65535 n → length (decimal n) ≤ 5
five {lo} {n} h = decimal_long 4 n (omega (arith, h.high))

-- so what a form makes is short
makes_short : (s : ℕ) (f : Form) (v : ℕ) (w : List ℕ) → short_form s f ≡ true → Makes f v w → length w ≤ 12
makes_short s f v w e (Makes.number {front = front} {back = back} {n = n} h) =
    omega (arith, leb-true (length front + length back) 7 e, five h, length-append front (decimal n ++ back), length-append (decimal n) back)
makes_short s f v w e (Makes.density {n = n} h g) = omega (arith, five h, length-append (decimal n) (ascii "dpi"))
makes_short s f v w e (Makes.sides {n = n} {m = m} h k g) = omega (arith, five h, five k, length-append (decimal n) (ascii "x" ++ decimal m))
makes_short s f v w e (Makes.minor {n = n} {m = m} h k) = omega (arith, five h, five k, length-append (decimal n) (ascii "." ++ decimal m))
makes_short s f v w e (Makes.two_letters h k) = lit≤ tt
makes_short s f v w e (Makes.three_letters h k l g) = lit≤ tt
makes_short s f v w e (Makes.two_capitals h k) = lit≤ tt
makes_short s f v w e (Makes.three_digits h k l) = lit≤ tt
makes_short s f v w e Makes.word = leb-true (length w) 12 e

-- every part is
pub short : {s v : ℕ} {w : List ℕ} → Has s v w → length w ≤ 12
short {s} {v} {w} h = makes_short s h.form v w (row_passes short_form s h.form rows all_short h.listed) h.makes

-- the slot of what may stand somewhere is free
may_free : (next : ℕ) (f : Found) → may next f ≡ true → next ≤ f.slot
unfolding may
may_free next f e =
    chosen_by (λ (b : Bool). b ≡ true → next ≤ f.slot) (eqb f.slot slot.region)
    (λ r m. omega (arith, eqb-true f.slot slot.region r, eqb-true next slot.region m))
    (λ r m. leb-true next f.slot m)
    (and_both {a = not (eqb f.value 0)} {b = cond (eqb f.slot slot.region) (eqb next slot.region) (leb next f.slot)} e).1

-- where a name is refused, as a number; 0 where it isn't
abbrev refused_at : Read → ℕ
refused_at (Read.so_far next vs) = 0
refused_at (Read.refused o) = o

-- each slot before the next free one took 13 bytes at most, its part and a dash; so did all twenty-five
far : (ps : List (List ℕ)) (next : ℕ) (vs : List ℕ) (at : ℕ) → at ≤ next * 13 → next ≤ 25 → refused_at (read_parts (Read.so_far next vs) at ps) ≤ 325
unfolding read_parts step
far [] next vs at h l = lit≤ tt
far (p ∷ ps) next vs at h l =
    let f = recognised p in
    chosen_by (λ (r : Read). refused_at (read_parts r (at + length p + 1) ps) ≤ 325) (may next f)
    (λ m. far ps (suc f.slot) (set vs f.slot f.value) (at + length p + 1)
    (omega (arith, may_free next f m, short (sound p (may_value next f m)))) (omega (arith, may_slot next p m)))
    (λ m. rw (kept at (at + length p + 1) ps) (omega arith))

-- of any name
name_far : (s : List ℕ) → refused_at (read_name s) ≤ 325
unfolding read_name
name_far [] = lit≤ tt
name_far (b ∷ s) = chosen_by (λ (r : Read). refused_at r ≤ 325) (eqb b 45) (λ e. lit≤ tt) (λ e. far (parts_of (b ∷ s)) 0 _ 0 (lit≤ tt) (lit≤ tt))

-- the offset at which a name is refused is 325 at most, however long the name is
pub offset_small : (s : List ℕ) (o : ℕ) → read_name s ≡ Read.refused o → o ≤ 325
offset_small s o e = omega (arith, name_far s, ap refused_at e)
