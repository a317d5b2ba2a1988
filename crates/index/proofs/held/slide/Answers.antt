-- What is left to carry, from where the loop stands, gives what the whole carrying gives. Assumes nothing.
use Prim.Native.Nat.{◌+◌, ◌-◌}
use mathlib.Core.Path.{◌≡◌, sym, ap, ◌∙◌}
use native.Mathlib.Omega.{arith}
use lib.ListN.{get_or, set}
use Rattle.index.specs.Steps.{carry}
use Rattle.index.proofs.Carry.{carry_on, carry_done}
use Rattle.index.proofs.held.slide.Goals as goal

pub loop-i-preserved : goal.loop-i-preserved
loop-i-preserved c = let k : c.args.to + 1 - (c.loop-i.i + 1) ≡ c.args.to + 1 - c.loop-i.i - 1 = omega arith in
    ap (carry (set c.loop-i.held c.loop-i.i c.loop-i.carried) (c.loop-i.i + 1) (get_or c.loop-i.held c.loop-i.i 0)) k
    ∙ sym (carry_on c.loop-i.held c.loop-i.i c.loop-i.carried (c.args.to + 1 - c.loop-i.i) (omega arith))
    ∙ c.loop-i.invariant

pub returns : goal.returns
returns c = sym (carry_done c.loop-i.held c.loop-i.i c.loop-i.carried _ (omega arith)) ∙ c.loop-i.invariant
