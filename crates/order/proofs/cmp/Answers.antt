-- `cmp`: the first word that differs decides, and then the later fields. Assumes nothing.
use Rattle.order.proofs.Chain.{skip, stop}
use Rattle.order.specs.Order.{order_of}
use Rattle.order.proofs.cmp.Goals as goal

pub returns-then-a-b : goal.returns-then-a-b
unfolding order_of
returns-then-a-b c = stop _ c.if-a-b.true c.word_apart.ensures

pub returns-then-a-b-2 : goal.returns-then-a-b-2
unfolding order_of
returns-then-a-b-2 c = skip c.if-a-b.false (stop _ c.if-a-b-2.true c.word_apart-then-a-b-2.ensures)

pub returns-then-a-b-3 : goal.returns-then-a-b-3
unfolding order_of
returns-then-a-b-3 c = skip c.if-a-b.false (skip c.if-a-b-2.false (stop _ c.if-a-b-3.true c.word_apart-then-a-b-3.ensures))

pub returns-then-a-b-4 : goal.returns-then-a-b-4
unfolding order_of
returns-then-a-b-4 c = skip c.if-a-b.false (skip c.if-a-b-2.false (skip c.if-a-b-3.false (stop _ c.if-a-b-4.true c.word_apart-then-a-b-4.ensures)))

pub returns-then-a-b-5 : goal.returns-then-a-b-5
unfolding order_of
returns-then-a-b-5 c = skip c.if-a-b.false (skip c.if-a-b-2.false (skip c.if-a-b-3.false (skip c.if-a-b-4.false
    (stop _ c.if-a-b-5.true c.word_apart-then-a-b-5.ensures))))

pub returns-then-a-b-6 : goal.returns-then-a-b-6
unfolding order_of
returns-then-a-b-6 c = skip c.if-a-b.false (skip c.if-a-b-2.false (skip c.if-a-b-3.false (skip c.if-a-b-4.false (skip c.if-a-b-5.false
    (stop _ c.if-a-b-6.true c.word_apart-then-a-b-6.ensures)))))

pub returns-then-a-b-7 : goal.returns-then-a-b-7
unfolding order_of
returns-then-a-b-7 c = skip c.if-a-b.false (skip c.if-a-b-2.false (skip c.if-a-b-3.false (skip c.if-a-b-4.false (skip c.if-a-b-5.false (skip c.if-a-b-6.false
    (stop _ c.if-a-b-7.true c.word_apart-then-a-b-7.ensures))))))

pub returns-then-a-b-8 : goal.returns-then-a-b-8
unfolding order_of
returns-then-a-b-8 c = skip c.if-a-b.false (skip c.if-a-b-2.false (skip c.if-a-b-3.false (skip c.if-a-b-4.false (skip c.if-a-b-5.false (skip c.if-a-b-6.false
    (skip c.if-a-b-7.false (stop _ c.if-a-b-8.true c.word_apart-then-a-b-8.ensures)))))))

pub returns : goal.returns
unfolding order_of
returns c = skip c.if-a-b.false (skip c.if-a-b-2.false (skip c.if-a-b-3.false (skip c.if-a-b-4.false (skip c.if-a-b-5.false (skip c.if-a-b-6.false
    (skip c.if-a-b-7.false (skip c.if-a-b-8.false c.later_order.ensures)))))))
