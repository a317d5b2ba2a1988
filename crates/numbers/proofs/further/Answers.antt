-- A step answers as `further` says. Assumes nothing.
use native.Mathlib.Omega.{arith}
use Rattle.numbers.proofs.Numbers.{further_low, further_high, kept_ok, further_is}
use Rattle.numbers.proofs.further.Goals as goal

pub returns-in_default : goal.returns-in_default
returns-in_default c = λ h. omega (arith, further_low c.args.n c.args.b (omega arith))

pub returns-in_default-2 : goal.returns-in_default-2
returns-in_default-2 c = λ h. omega (arith, further_high c.args.n c.args.b (omega arith))

pub returns : goal.returns
returns c =
    let o = kept_ok _ _ c.try_from.result (rw (c.from.ensures, c.from-2.ensures) at c.try_from.ensures) in
    further_is c.args.n c.args.b c.ok.result (omega arith) (omega arith) (rw c.ok.ensures.value o)
