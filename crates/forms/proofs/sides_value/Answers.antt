-- `sides_value` keeps two numbers that aren't both 0. Assumes nothing.
use Rattle.forms.proofs.Ways.{pair_known}
use Rattle.forms.proofs.sides_value.Goals as goal

pub returns-in_err-sides : goal.returns-in_err-sides
returns-in_err-sides c = rw c.from_residual.ensures (λ h. c.in_err-sides.ensures (pair_known 120 c.args.s.now h))
