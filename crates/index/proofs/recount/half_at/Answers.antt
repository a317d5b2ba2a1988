-- The number of the four bytes is their sum, each with its weight. Assumes nothing.
use native.Mathlib.Omega.{arith}
use borrow.Author.Rules.{rules}
use Rattle.laws.proofs.Lists.{row}
use Rattle.index.proofs.recount.half_at.Goals as goal

pub returns : goal.returns
returns c = (
  rw (← row c.args.bytes.now c.args.at 3 (omega arith)) (search rules),
  omega (arith, c.wide-4.ensures, c.wide-3.ensures, c.wide-2.ensures, c.wide.ensures),
)
