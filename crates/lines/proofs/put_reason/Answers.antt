-- The number, and behind a 2 a space and the row. Assumes nothing.
use borrow.Author.Rules.{rules}
use borrow.Author.Tests.{eq-eqb, ne_eqb}
use Rattle.buffer.proofs.Putting.{put_put, put_nil}
use Rattle.lines.specs.Lines.{reason_words}
use Rattle.lines.proofs.put_reason.Goals as goal

pub returns-then-told-eq2 : goal.returns-then-told-eq2
unfolding reason_words
returns-then-told-eq2 c = rw (eq-eqb _ 2 c.if-told-eq2.true) (put_put c.put_decimal-a.ensures c.put_label.ensures)

pub returns-else-told-eq2 : goal.returns-else-told-eq2
unfolding reason_words
returns-else-told-eq2 c = rw (ne_eqb _ 2 c.if-told-eq2.false) (put_put c.put_decimal-a.ensures put_nil)
