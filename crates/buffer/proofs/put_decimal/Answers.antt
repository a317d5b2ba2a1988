-- The digits behind the first are put from the last on, and then the first. Assumes nothing.
use mathlib.Core.Path.{refl, ◌∙◌}
use native.Mathlib.Omega.{arith}
use Rattle.buffer.proofs.Backwards.{digit_put, digit_one, digits_first, put_within}
use Rattle.buffer.proofs.Digits.{decimal_long}
use Rattle.buffer.proofs.Putting.{put_nil, put_past}
use Rattle.buffer.proofs.put_decimal.Goals as goal

pub returns-then-out-at : goal.returns-then-out-at
returns-then-out-at c = put_past _ c.if-out-at.true put_nil

pub overflow_add-end : goal.overflow_add-end
overflow_add-end c = omega (arith, c.decimal_length.ensures, decimal_long 19 c.args.n (omega arith))

pub loop-o-init : goal.loop-o-init
loop-o-init c = (omega (arith, c.decimal_length.ensures), refl)

pub loop-o-preserved : goal.loop-o-preserved
loop-o-preserved c = digit_put c.loop-o.left (omega arith) (omega arith) c.loop-o.invariant c.put_byte.ensures

pub overflow_cast-left-2 : goal.overflow_cast-left-2
overflow_cast-left-2 c = omega (arith, digits_first {at = c.args.at} c.loop-o.left (omega arith) c.loop-o.invariant.0)

pub overflow_add-left-2 : goal.overflow_add-left-2
overflow_add-left-2 c = omega (arith, digits_first {at = c.args.at} c.loop-o.left (omega arith) c.loop-o.invariant.0)

pub returns : goal.returns
returns c =
    put_within (digit_one (digits_first {at = c.args.at} c.loop-o.left (omega arith) c.loop-o.invariant.0) c.put_byte-2.ensures ∙ c.loop-o.invariant.1)
    (omega arith) (omega (arith, c.min.ensures, c.decimal_length.ensures))
