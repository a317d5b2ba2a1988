-- The line's length is had before anything is put; where it fits, the line is put into the lent buffer itself. Assumes nothing.
use mathlib.Core.Path.{sym}
use native.Mathlib.Omega.{arith}
use borrow.Author.Rules.{rules}
use Rattle.buffer.proofs.Digits.{decimal_long}
use Rattle.buffer.proofs.Writing.{written_short}
use Rattle.text.proofs.Answers.{put-fits}
use Rattle.lines.specs.Lines.{age_line}
use Rattle.lines.proofs.Bounds.{age_length}
use Rattle.lines.proofs.age_line.Goals as goal

pub overflow_add-decimal_length : goal.overflow_add-decimal_length
overflow_add-decimal_length c = omega (arith, c.decimal_length.ensures, decimal_long 19 c.args.age.0 (omega arith))

pub returns-then-out-decimal_length : goal.returns-then-out-decimal_length
returns-then-out-decimal_length c = sym (written_short _ _ (omega (arith, c.if-out-decimal_length.true, c.decimal_length.ensures, age_length c.args.age.0)))

pub returns : goal.returns
unfolding age_line
returns c = let l = age_length c.args.age.0 in
    put-fits (omega (arith, c.if-out-decimal_length.false, c.decimal_length.ensures, l)) c.put_between.ensures
