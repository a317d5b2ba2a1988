-- The three cases of the sum. Assumes nothing.
use native.Mathlib.Omega.{arith}
use borrow.Author.Tests.{eq-eqb, ne_eqb}
use Rattle.text_length.proofs.joined.Goals as goal

pub returns-then-front-ne0-clause-value : goal.returns-then-front-ne0-clause-value
returns-then-front-ne0-clause-value c = rw (ne_eqb _ 0 c.if-front-ne0.true)

pub returns-then-cost-eq0-clause-value : goal.returns-then-cost-eq0-clause-value
returns-then-cost-eq0-clause-value c = rw (eq-eqb _ 0 c.if-front-ne0.false) (omega arith)

pub returns-clause-value : goal.returns-clause-value
returns-clause-value c = rw (eq-eqb _ 0 c.if-front-ne0.false) (omega arith)
