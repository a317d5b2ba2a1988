-- A number of 16 bits is below 100,000. Assumes nothing.
use native.Mathlib.Omega.{arith}
use Rattle.buffer.proofs.Digits.{decimal_long}
use Rattle.text_length.proofs.cost.digits.Goals as goal

pub returns-clause-value : goal.returns-clause-value
returns-clause-value c = c.decimal_length.ensures

pub returns-clause-upper_bound : goal.returns-clause-upper_bound
returns-clause-upper_bound c = omega (arith, c.decimal_length.ensures, decimal_long 4 c.args.n (omega arith))
