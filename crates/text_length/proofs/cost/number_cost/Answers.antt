-- A number that is 0 adds nothing. Assumes nothing.
use native.Mathlib.Omega.{arith}
use Rattle.places.proofs.Laws.{some_said, none_said}
use Rattle.text_length.proofs.cost.number_cost.Goals as goal

pub returns-then-n-eq0-clause-value : goal.returns-then-n-eq0-clause-value
returns-then-n-eq0-clause-value c = rw (none_said _ c.if-n-eq0.true)

pub returns-clause-value : goal.returns-clause-value
returns-clause-value c = rw (some_said _ c.if-n-eq0.false) (omega (arith, c.digits.ensures.value))

pub returns-clause-upper_bound : goal.returns-clause-upper_bound
returns-clause-upper_bound c = omega (arith, c.digits.ensures.upper_bound, c.requires)
