-- `later_agree`: the first field from `locale_script` on that differs decides. Assumes nothing.
use Rattle.order.proofs.Chain.{pass, differ, pass_as, differ_as, pass_bytes, differ_bytes, last_agree}
use Rattle.order.proofs.later_agree.Goals as goal

pub returns-then-x-y : goal.returns-then-x-y
returns-then-x-y c = differ_bytes c.script-x.ensures c.script-y.ensures _ _ c.if-x-y.true

pub returns-then-x-y-2 : goal.returns-then-x-y-2
returns-then-x-y-2 c = pass_bytes c.script-x.ensures c.script-y.ensures _ _ c.if-x-y.false
    (differ_bytes c.variant-x.ensures c.variant-y.ensures _ _ c.if-x-y-2.true)

pub returns-then-a-b : goal.returns-then-a-b
returns-then-a-b c = pass_bytes c.script-x.ensures c.script-y.ensures _ _ c.if-x-y.false
    (pass_bytes c.variant-x.ensures c.variant-y.ensures _ _ c.if-x-y-2.false
    (differ _ c.if-a-b.true))

pub returns-then-x-y-3 : goal.returns-then-x-y-3
returns-then-x-y-3 c = pass_bytes c.script-x.ensures c.script-y.ensures _ _ c.if-x-y.false
    (pass_bytes c.variant-x.ensures c.variant-y.ensures _ _ c.if-x-y-2.false (pass c.if-a-b.false
    (differ_as c.computed-x.ensures c.computed-y.ensures _ c.if-x-y-3.true)))

pub returns-then-x-y-4 : goal.returns-then-x-y-4
returns-then-x-y-4 c = pass_bytes c.script-x.ensures c.script-y.ensures _ _ c.if-x-y.false
    (pass_bytes c.variant-x.ensures c.variant-y.ensures _ _ c.if-x-y-2.false (pass c.if-a-b.false
    (pass_as c.computed-x.ensures c.computed-y.ensures c.if-x-y-3.false
    (differ_bytes c.numbering_system-x.ensures c.numbering_system-y.ensures _ _ c.if-x-y-4.true))))

pub returns : goal.returns
returns c = pass_bytes c.script-x.ensures c.script-y.ensures _ _ c.if-x-y.false
    (pass_bytes c.variant-x.ensures c.variant-y.ensures _ _ c.if-x-y-2.false (pass c.if-a-b.false
    (pass_as c.computed-x.ensures c.computed-y.ensures c.if-x-y-3.false
    (pass_bytes c.numbering_system-x.ensures c.numbering_system-y.ensures _ _ c.if-x-y-4.false
    (last_agree c.padding.ensures c.padding-2.ensures)))))
