-- `part_from` asks what the bytes are, and then whether its slot is free. Assumes nothing.
use native.Mathlib.Omega.{arith}
use Rattle.parts.specs.Recognised.{recognised}
use Rattle.names.proofs.Reading.{may_value, stands_region, stands_later}
use Rattle.names.proofs.part_from.Goals as goal

pub returns-in_err-found : goal.returns-in_err-found
returns-in_err-found c = rw c.from_residual.ensures (λ h. omega (arith, c.in_err-found.ensures, may_value c.args.next _ h))

pub returns-then-found-eq-REGION : goal.returns-then-found-eq-REGION
returns-then-found-eq-REGION c =
    stands_region c.args.next c.in_ok-found.found (recognised c.args.s.now) c.in_ok-found.ensures c.if-found-eq-REGION.true c.then_some.ensures

pub returns : goal.returns
returns c = stands_later c.args.next c.in_ok-found.found (recognised c.args.s.now) c.in_ok-found.ensures c.if-found-eq-REGION.false c.then_some-2.ensures
