-- What a call for a line comes to by the answer of the line's writing. Assumes nothing.
use Prim.Native.Nat.{ℕ, ◌<◌}
use mathlib.Core.Path.{◌≡◌, ap, ◌∙◌}
use mathlib.Core.Bool.{false, cond}
use mathlib.Core.List.{List}
use native.Mathlib.Omega.{arith}
use native.Mathlib.Decide.{dec_le}
use lib.Dec.{eqb}
use lib.ListN.{length}
use borrow.Author.Tests.{le-leb, lt-leb, ne_eqb}
use Rattle.answers.specs.declared.Refusal.{Refusal}
use Rattle.std.specs.Prelude.{Result, Ok, Err}
use Rattle.answers.specs.Numbers.{number_of}
use Rattle.answers.specs.Tells.{told_of}
use Rattle.answers.proofs.OneToOne.{number_pos}
use Rattle.buffer.specs.Written.{Outcome, outcome, written}
use Rattle.buffer.proofs.Writing.{written_fits, written_short}
use Rattle.lines.specs.declared.Cursor.{Cursor}
use Rattle.lines.specs.declared.Lined.{Lined}
use Rattle.lines.specs.Lines.{lined_outcome, line_written}

-- a refusal's number is none of a success
pub refused-number : (why : Refusal) → eqb (number_of why) 0 ≡ false
refused-number why = ne_eqb (number_of why) 0 (λ e. omega (arith, number_pos why))

-- a line that was written goes on, and one that was refused stays
pub went : (w old : List ℕ) (c next : Cursor) (answer : Result ℕ Refusal) (new : List ℕ) (lined : Lined) → outcome answer new ≡ written w old
    → (lined.answer ≡ answer) × (lined.cursor ≡ cond (eqb (told_of answer).number 0) next c) → lined_outcome lined new ≡ line_written w c next old
went w old c next answer new lined e (here, there) =
    elim (dec_le (length w) (length old)) [
      | yes h ↦
          let n : (told_of answer).number ≡ 0 = ap (λ (o : Outcome). o.tells.number) (e ∙ written_fits w old h) in
          rw (here, there, n, e, le-leb (length w) (length old) h)
      | no h ↦
          let l : length old < length w = omega arith in
          let n : (told_of answer).number ≡ 5 = ap (λ (o : Outcome). o.tells.number) (e ∙ written_short w old l) in
          rw (here, there, n, e, lt-leb (length w) (length old) l)
    ]
