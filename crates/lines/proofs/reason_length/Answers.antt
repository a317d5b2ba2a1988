-- The number has its digits; behind a 2 come a space and those of the row. Assumes nothing.
use native.Mathlib.Omega.{arith}
use lib.ListN.{length-append}
use borrow.Author.Rules.{rules}
use borrow.Author.Tests.{eq-eqb, ne_eqb}
use Rattle.buffer.proofs.Digits.{decimal_long}
use Rattle.lines.specs.Lines.{reason_words}
use Rattle.lines.proofs.reason_length.Goals as goal

pub returns-then-told-ne2 : goal.returns-then-told-ne2
unfolding reason_words
returns-then-told-ne2 c = rw (ne_eqb _ 2 c.if-told-ne2.true) (simp length-append (omega (arith, c.decimal_length-n.ensures)))

pub overflow_add-result : goal.overflow_add-result
overflow_add-result c = omega (arith, c.decimal_length-n.ensures, decimal_long 19 c.args.told.number (omega arith))

pub overflow_add-result-2 : goal.overflow_add-result-2
overflow_add-result-2 c = omega (arith, c.decimal_length-n.ensures, c.decimal_length.ensures, decimal_long 19 c.args.told.number (omega arith), decimal_long 19 c.args.told.carried (omega arith))

pub returns : goal.returns
unfolding reason_words
returns c = rw (eq-eqb _ 2 c.if-told-ne2.false) (simp length-append (omega (arith, c.decimal_length-n.ensures, c.decimal_length.ensures)))
