-- 'r' and two bytes, 'r' and three, another byte in front, or another number of bytes. Assumes nothing.
use Prim.Native.Nat.{◌<◌}
use mathlib.Core.Path.{subst}
use native.Mathlib.Omega.{arith}
use lib.ListN.{get_or}
use Rattle.std.specs.Option.{SomeIff}
use Rattle.letters.proofs.Letters.{region_not, two_given}
use Rattle.letters.proofs.Ways.{region_of_three, region_of_four, region_of_other}
use Rattle.letters.proofs.region_value.Goals as goal

pub returns-in-114 : goal.returns-in-114
returns-in-114 c = subst (λ n. SomeIff c.two.result (0 < n) n) (region_of_three c.args.s.now (omega arith) (omega arith)) (two_given c.two.result 65 90 (get_or c.args.s.now 1 0) (get_or c.args.s.now 2 0) (omega arith) c.two.ensures)

pub returns-in-114-2 : goal.returns-in-114-2
returns-in-114-2 c = subst (λ n. SomeIff c.three.result (0 < n) n) (region_of_four c.args.s.now (omega arith) (omega arith)) c.three.ensures

pub returns-in_default : goal.returns-in_default
returns-in_default c = λ h. omega (arith, region_of_other c.args.s.now (λ e. omega arith) (λ e. omega arith))

pub returns-in_default-2 : goal.returns-in_default-2
returns-in_default-2 c = λ h. omega (arith, region_not c.args.s.now (λ e. omega arith))

pub returns-in_default-3 : goal.returns-in_default-3
returns-in_default-3 c = λ h. omega (arith, region_not c.args.s.now (λ e. omega arith))

pub returns-in_default-4 : goal.returns-in_default-4
returns-in_default-4 c = λ h. omega (arith, region_of_other c.args.s.now (λ e. omega arith) (λ e. omega arith))
