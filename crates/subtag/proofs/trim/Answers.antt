-- `trim` stops at the last byte that is no NUL. Assumes nothing.
use Rattle.subtag.proofs.Nuls.{one_less, stays, ended}
use mathlib.Core.Path.{sym, ◌∙◌}
use native.Mathlib.Omega.{arith}
use Prim.Native.Nat.{◌-◌}
use Rattle.subtag.proofs.trim.Goals as goal

pub returns-then-s-n-ne0 : goal.returns-then-s-n-ne0
returns-then-s-n-ne0 c = (omega arith, sym (c.loop-n.invariant ∙ stays _ c.loop-n.n (c.loop-n.n - 1) (omega arith) (omega arith) c.if-s-n-ne0.true))

pub loop-n-preserved : goal.loop-n-preserved
loop-n-preserved c = c.loop-n.invariant ∙ one_less _ c.loop-n.n (c.loop-n.n - 1) (omega arith) (omega arith) c.if-s-n-ne0.false

pub returns : goal.returns
returns c = (omega arith, sym (c.loop-n.invariant ∙ ended _ c.loop-n.n (omega arith)))
