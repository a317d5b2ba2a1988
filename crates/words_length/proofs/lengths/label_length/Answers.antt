-- What stands in front is short, and no number has more than twenty digits. Assumes nothing.
use native.Mathlib.Omega.{arith}
use Rattle.buffer.proofs.Digits.{decimal_long}
use Rattle.words_length.proofs.lengths.label_length.Goals as goal

pub overflow_add-result : goal.overflow_add-result
overflow_add-result c = omega (arith, c.decimal_length.ensures, c.requires, decimal_long 19 c.args.n (omega arith))
