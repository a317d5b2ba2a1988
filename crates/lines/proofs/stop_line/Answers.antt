-- The line's length is had before anything is put; where it fits, the line is put into the lent buffer itself. Assumes nothing.
use mathlib.Core.Path.{sym, ap}
use native.Mathlib.Omega.{arith}
use borrow.Author.Rules.{rules}
use Rattle.answers.specs.declared.Told.{Told}
use Rattle.buffer.proofs.Digits.{decimal_long}
use Rattle.buffer.proofs.Putting.{put_put}
use Rattle.buffer.proofs.Writing.{written_short}
use Rattle.text.proofs.Answers.{put-fits}
use Rattle.lines.specs.Lines.{stop_line}
use Rattle.lines.proofs.Bounds.{stop_length, stop_long}
use Rattle.lines.proofs.stop_line.Goals as goal

pub overflow_add-decimal_length : goal.overflow_add-decimal_length
overflow_add-decimal_length c = omega (arith, c.decimal_length.ensures, decimal_long 19 c.args.offset (omega arith))

pub overflow_add-decimal_length-2 : goal.overflow_add-decimal_length-2
overflow_add-decimal_length-2 c = let reason = rw c.told-told.ensures at c.reason_length.ensures in
    let row = ap (λ (t : Told). t.carried) c.told-told.ensures in
    let l = stop_long 19 19 c.args.offset c.args.stop (decimal_long 19 c.args.offset (omega arith))
    (decimal_long 19 _ (omega (arith, c.told-told.type_inv))) in
    omega (arith, c.decimal_length.ensures, reason, stop_length c.args.offset c.args.stop, l)

pub returns-then-out-decimal_length : goal.returns-then-out-decimal_length
returns-then-out-decimal_length c = let reason = rw c.told-told.ensures at c.reason_length.ensures in
    sym (written_short _ _ (omega (arith, c.if-out-decimal_length.true, c.decimal_length.ensures, reason, stop_length c.args.offset c.args.stop)))

pub returns : goal.returns
unfolding stop_line
returns c = let reason = rw c.told-told.ensures at c.reason_length.ensures in
    put-fits (omega (arith, c.if-out-decimal_length.false, c.decimal_length.ensures, reason, stop_length c.args.offset c.args.stop))
    (rw c.told-told.ensures at (put_put (put_put c.put_between-a.ensures c.put_reason-b.ensures)
    c.put_byte.ensures))
