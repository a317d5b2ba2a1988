-- `same` compares the lengths, and then byte after byte. Assumes nothing.
use mathlib.Core.Path.{sym, ◌∙◌}
use native.Mathlib.Omega.{arith}
use borrow.Author.Tests.{eq-eqb, ne_eqb}
use Rattle.compare.proofs.Compare.{same_length, same_at, same_end}
use Rattle.compare.proofs.same.Goals as goal

pub returns-then-s-w : goal.returns-then-s-w
returns-then-s-w c = same_length _ _ c.if-s-w.true

pub returns-then-s-i : goal.returns-then-s-i
returns-then-s-i c = sym (c.loop-i.invariant.2 ∙ same_at c.args.s.now c.args.w.now c.loop-i.i (omega arith) (omega arith) ∙ rw (ne_eqb _ _ c.if-s-i.true))

pub loop-i-preserved : goal.loop-i-preserved
loop-i-preserved c = (
  omega arith,
  c.loop-i.invariant.1,
  c.loop-i.invariant.2 ∙ same_at c.args.s.now c.args.w.now c.loop-i.i (omega arith) (omega arith) ∙ rw (eq-eqb _ _ c.if-s-i.false),
)

pub returns : goal.returns
returns c = sym (c.loop-i.invariant.2 ∙ same_end c.args.s.now c.args.w.now c.loop-i.i (omega arith) (omega arith))
