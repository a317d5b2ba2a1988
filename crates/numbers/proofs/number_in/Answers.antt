-- `number_in` reads digit by digit. Assumes nothing.
use mathlib.Core.Path.{sym, ◌∙◌}
use native.Mathlib.Omega.{arith}
use borrow.Author.Tests.{eqb-true, eqb-false}
use Rattle.numbers.proofs.Numbers.{number_empty, number_zero, number_is, further_at, further_end, further_lost}
use Rattle.numbers.proofs.number_in.Goals as goal
use Rattle.numbers.proofs.number_in.Goals.{then-is_empty-via-then-is_empty, then-is_empty-via-else-is_empty+then-leading_zero}

pub returns-then-is_empty : goal.returns-then-is_empty
returns-then-is_empty c =
    elim c.then-is_empty.branch [
      | then-is_empty-via-then-is_empty w ↦ λ h. omega (arith, number_empty c.args.s.now (eqb-true _ _ (sym c.is_empty.ensures ∙ w.if-is_empty.true)))
      | then-is_empty-via-else-is_empty+then-leading_zero w ↦ λ h. omega (arith, number_zero c.args.s.now (sym w.leading_zero.ensures ∙ w.if-leading_zero.true))
    ]

pub loop-b-init : goal.loop-b-init
loop-b-init c = (
  omega arith,
  omega arith,
  sym (number_is _ (eqb-false _ _ (sym c.is_empty.ensures ∙ c.if-is_empty.false)) (sym c.leading_zero.ensures ∙ c.if-leading_zero.false)),
)

pub returns-in_err-n : goal.returns-in_err-n
returns-in_err-n c = rw c.from_residual.ensures
    (λ h. omega (arith, c.loop-b.invariant.2, further_lost c.args.s.now c.loop-b.b-index c.loop-b.n (omega arith) c.in_err-n.ensures))

pub loop-b-preserved : goal.loop-b-preserved
loop-b-preserved c = (
  omega arith,
  omega (arith, c.in_ok-n.ensures),
  rw (c.in_ok-n.ensures.1, ← further_at c.args.s.now c.loop-b.b-index c.loop-b.n (omega arith)) c.loop-b.invariant.2,
)

pub returns : goal.returns
returns c =
    let e = sym (further_end c.args.s.now c.loop-b.b-index c.loop-b.n (omega arith)) ∙ c.loop-b.invariant.2 in
    (omega (arith, e, c.loop-b.invariant.1), e)
