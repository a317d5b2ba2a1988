-- `later_order`: the first field from `locale_script` on that differs decides. Assumes nothing.
use Rattle.order.proofs.Chain.{skip, stop, skip_as, stop_as, skip_bytes, stop_bytes, last_order}
use Rattle.order.proofs.Lex.{equal_is}
use Rattle.order.proofs.later_order.Goals as goal

pub returns-then-x-y : goal.returns-then-x-y
returns-then-x-y c = stop_bytes c.script-x.ensures c.script-y.ensures _ _ c.if-x-y.true c.apart.ensures

pub returns-then-x-y-2 : goal.returns-then-x-y-2
returns-then-x-y-2 c = skip_bytes c.script-x.ensures c.script-y.ensures _ _ c.if-x-y.false
    (stop_bytes c.variant-x.ensures c.variant-y.ensures _ _ c.if-x-y-2.true c.apart-then-x-y-2.ensures)

pub returns-then-a-b : goal.returns-then-a-b
returns-then-a-b c = skip_bytes c.script-x.ensures c.script-y.ensures _ _ c.if-x-y.false
    (skip_bytes c.variant-x.ensures c.variant-y.ensures _ _ c.if-x-y-2.false
    (stop _ c.if-a-b.true c.word_apart.ensures))

pub returns-then-x-y-3 : goal.returns-then-x-y-3
returns-then-x-y-3 c = skip_bytes c.script-x.ensures c.script-y.ensures _ _ c.if-x-y.false
    (skip_bytes c.variant-x.ensures c.variant-y.ensures _ _ c.if-x-y-2.false (skip c.if-a-b.false
    (stop_as c.computed-x.ensures c.computed-y.ensures _ c.if-x-y-3.true c.apart-then-x-y-3.ensures)))

pub returns-then-x-y-4 : goal.returns-then-x-y-4
returns-then-x-y-4 c = skip_bytes c.script-x.ensures c.script-y.ensures _ _ c.if-x-y.false
    (skip_bytes c.variant-x.ensures c.variant-y.ensures _ _ c.if-x-y-2.false (skip c.if-a-b.false
    (skip_as c.computed-x.ensures c.computed-y.ensures c.if-x-y-3.false
    (stop_bytes c.numbering_system-x.ensures c.numbering_system-y.ensures _ _ c.if-x-y-4.true c.apart-then-x-y-4.ensures))))

pub returns-then-x-y-5 : goal.returns-then-x-y-5
returns-then-x-y-5 c = skip_bytes c.script-x.ensures c.script-y.ensures _ _ c.if-x-y.false
    (skip_bytes c.variant-x.ensures c.variant-y.ensures _ _ c.if-x-y-2.false (skip c.if-a-b.false
    (skip_as c.computed-x.ensures c.computed-y.ensures c.if-x-y-3.false
    (skip_bytes c.numbering_system-x.ensures c.numbering_system-y.ensures _ _ c.if-x-y-4.false
    (last_order c.padding-x.ensures c.padding-y.ensures c.apart-then-x-y-5.ensures)))))

pub returns : goal.returns
returns c = skip_bytes c.script-x.ensures c.script-y.ensures _ _ c.if-x-y.false
    (skip_bytes c.variant-x.ensures c.variant-y.ensures _ _ c.if-x-y-2.false (skip c.if-a-b.false
    (skip_as c.computed-x.ensures c.computed-y.ensures c.if-x-y-3.false
    (skip_bytes c.numbering_system-x.ensures c.numbering_system-y.ensures _ _ c.if-x-y-4.false
    (last_order c.padding-x.ensures c.padding-y.ensures (equal_is _ _ c.if-x-y-5.false))))))
