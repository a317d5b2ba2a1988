-- `up_to` looks from the front on. Assumes nothing.
use native.Mathlib.Omega.{arith}
use Rattle.compare.proofs.Compare.{up_most}
use Rattle.compare.proofs.up_to.Goals as goal

pub returns-clause-upper_bound : goal.returns-clause-upper_bound
returns-clause-upper_bound c = omega (arith, c.next_at.ensures, up_most c.args.b c.args.s.now)
