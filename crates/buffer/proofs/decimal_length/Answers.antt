-- The digits go by the power of ten that is reached. Assumes nothing.
use native.Mathlib.Omega.{arith}
use Rattle.buffer.proofs.Digits.{decimal_power}
use Rattle.buffer.proofs.decimal_length.Goals as goal

pub returns : goal.returns
returns c = omega (arith, decimal_power c.ilog10.result c.args.n c.max.ensures c.ilog10.ensures.power_le c.ilog10.ensures.next_power_gt)
