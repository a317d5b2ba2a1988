-- Each turn takes one record in. Assumes nothing.
use mathlib.Core.Path.{sym, ◌∙◌}
use native.Mathlib.Omega.{arith}
use Rattle.runs.proofs.Records.{front_within}
use Rattle.index.proofs.Gathering.{gathering_begins, can_take, gathering_on, gathered_full, gathered_all}
use Rattle.index.proofs.held.gather.Goals as goal

pub loop-n-init : goal.loop-n-init
loop-n-init c = gathering_begins _ _ _ _ c.requires.0

pub take_in-m-requires : goal.take_in-m-requires
take_in-m-requires c =
    can_take _ _ _ _ _ _ _ c.loop-n.invariant (sym c.front_at.ensures ∙ c.in-Ok.is) c.requires.1.0 c.requires.1.1

pub returns-then-room-m : goal.returns-then-room-m
returns-then-room-m c = gathered_full _ _ _ _ _ _ _ c.loop-n.invariant (sym c.front_at.ensures ∙ c.in-Ok.is) c.requires.1.0 _ _ c.take_in-m.ensures c.if-room-m.true

pub overflow_add-here : goal.overflow_add-here
overflow_add-here c = omega (arith, front_within c.args.bytes.now c.loop-n.here _ (sym c.front_at.ensures ∙ c.in-Ok.is))

pub loop-n-smaller : goal.loop-n-smaller
loop-n-smaller c = omega (arith, front_within c.args.bytes.now c.loop-n.here _ (sym c.front_at.ensures ∙ c.in-Ok.is))

pub loop-n-preserved : goal.loop-n-preserved
loop-n-preserved c = gathering_on _ _ _ _ _ _ _ c.loop-n.invariant (sym c.front_at.ensures ∙ c.in-Ok.is) c.requires.1.0 _ _ c.take_in-m.ensures (omega (arith, c.if-room-m.false))

pub returns : goal.returns
returns c = gathered_all _ _ _ _ _ _ _ c.requires.1.0 c.loop-n.invariant
    (sym c.front_at.ensures ∙ c.in_default.is)
