-- How long a line is at the most: in a listing, none is longer than 1,069 bytes. Assumes nothing.
use Prim.Native.Nat.{ℕ, suc, ◌+◌, ◌≤◌}
use mathlib.Core.Path.{◌≡◌, refl}
use mathlib.Core.Bool.{Bool, true, false}
use mathlib.Core.List.{List}
use native.Mathlib.Omega.{arith}
use lib.Dec.{eqb, lit<}
use lib.ListN.{length, length-append}
use borrow.Author.Tests.{eqb-true}
use Rattle.answers.specs.Numbers.{number_of}
use Rattle.answers.specs.Tells.{success}
use Rattle.answers.proofs.OneToOne.{number_most}
use Rattle.buffer.specs.Decimal.{decimal}
use Rattle.buffer.proofs.Digits.{decimal_long}
use Rattle.record.specs.Table.{Bytes}
use Rattle.reading.specs.Reading.{take_of, size_of}
use Rattle.reading.proofs.Whole.{took_says}
use Rattle.runs.specs.declared.Stop.{Stop}
use Rattle.runs.specs.Fronts.{stop_tells}
use Rattle.record_line.specs.RecordLine.{record_line}
use Rattle.record_line.proofs.Bounds.{record_long}
use Rattle.lines.specs.Lines.{age_line, reason_words, stop_line}

-- the line with an age, which has five bytes beside the age's digits
pub age_length : (a : ℕ) → length (age_line a) ≡ 5 + length (decimal a)
unfolding age_line
age_length a = simp length-append (omega arith)

-- so with d + 1 digits at the most
pub age_long : (d a : ℕ) → length (decimal a) ≤ suc d → length (age_line a) ≤ d + 6
age_long d a h = omega (arith, age_length a)

-- the number that a stop tells has two digits at the most
stop_digits : (stop : Stop) → length (decimal (stop_tells stop).number) ≤ 2
stop_digits Stop.Ended = decimal_long 1 0 (lit< tt)
stop_digits (Stop.Refused why) = decimal_long 1 (number_of why) (omega (arith, number_most why))

-- a 2 has one, and the row behind it e + 1 at the most
reason_long : (e : ℕ) (stop : Stop) → length (decimal (stop_tells stop).carried) ≤ suc e → length (reason_words (stop_tells stop)) ≤ e + 3
unfolding reason_words
reason_long e stop h = by (eqb (stop_tells stop).number 2) refl where
  by : (b : Bool) → eqb (stop_tells stop).number 2 ≡ b → length (reason_words (stop_tells stop)) ≤ e + 3
  by true t =
      let two = decimal_long 0 (stop_tells stop).number (omega (arith, eqb-true (stop_tells stop).number 2 t)) in
      rw t (simp length-append (omega arith))
  by false t = rw t (simp length-append (omega (arith, stop_digits stop)))

-- the last line, which has seven bytes beside the offset's digits and the reason
pub stop_length : (p : ℕ) (stop : Stop) → length (stop_line p stop) ≡ 7 + length (decimal p) + length (reason_words (stop_tells stop))
unfolding stop_line
stop_length p stop = simp length-append (omega arith)

-- so with an offset of d + 1 digits and a row of e + 1 at the most
pub stop_long : (d e p : ℕ) (stop : Stop) → length (decimal p) ≤ suc d → length (decimal (stop_tells stop).carried) ≤ suc e
    → length (stop_line p stop) ≤ d + e + 11
stop_long d e p stop h k = omega (arith, stop_length p stop, reason_long e stop k)

-- the line of a record that stands whole in 65,536 bytes, with an index that is at most its offset
pub whole_long : (a i p t : ℕ) (s : List ℕ) → Bytes s → success t ≡ take_of s → i ≤ p → p + length s ≤ 65536 → length (record_line a i p s) ≤ 1069
whole_long a i p t s h e l k =
    let w = (took_says s t e).1 in
    record_long 4 4 4 a i p s h (decimal_long 4 i (omega arith)) (decimal_long 4 p (omega arith)) (decimal_long 4 (size_of s) (omega arith))
