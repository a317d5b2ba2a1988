-- `eq`: the first word that differs decides, and then the later fields. Assumes nothing.
use Rattle.order.proofs.Chain.{pass, differ}
use Rattle.order.specs.Order.{equal_of}
use Rattle.order.proofs.eq.Goals as goal

pub returns-then-a-b : goal.returns-then-a-b
unfolding equal_of
returns-then-a-b c = differ _ c.if-a-b.true

pub returns-then-a-b-2 : goal.returns-then-a-b-2
unfolding equal_of
returns-then-a-b-2 c = pass c.if-a-b.false (differ _ c.if-a-b-2.true)

pub returns-then-a-b-3 : goal.returns-then-a-b-3
unfolding equal_of
returns-then-a-b-3 c = pass c.if-a-b.false (pass c.if-a-b-2.false (differ _ c.if-a-b-3.true))

pub returns-then-a-b-4 : goal.returns-then-a-b-4
unfolding equal_of
returns-then-a-b-4 c = pass c.if-a-b.false (pass c.if-a-b-2.false (pass c.if-a-b-3.false (differ _ c.if-a-b-4.true)))

pub returns-then-a-b-5 : goal.returns-then-a-b-5
unfolding equal_of
returns-then-a-b-5 c = pass c.if-a-b.false (pass c.if-a-b-2.false (pass c.if-a-b-3.false (pass c.if-a-b-4.false (differ _ c.if-a-b-5.true))))

pub returns-then-a-b-6 : goal.returns-then-a-b-6
unfolding equal_of
returns-then-a-b-6 c = pass c.if-a-b.false (pass c.if-a-b-2.false (pass c.if-a-b-3.false (pass c.if-a-b-4.false (pass c.if-a-b-5.false
    (differ _ c.if-a-b-6.true)))))

pub returns-then-a-b-7 : goal.returns-then-a-b-7
unfolding equal_of
returns-then-a-b-7 c = pass c.if-a-b.false (pass c.if-a-b-2.false (pass c.if-a-b-3.false (pass c.if-a-b-4.false (pass c.if-a-b-5.false (pass c.if-a-b-6.false
    (differ _ c.if-a-b-7.true))))))

pub returns-then-a-b-8 : goal.returns-then-a-b-8
unfolding equal_of
returns-then-a-b-8 c = pass c.if-a-b.false (pass c.if-a-b-2.false (pass c.if-a-b-3.false (pass c.if-a-b-4.false (pass c.if-a-b-5.false (pass c.if-a-b-6.false
    (pass c.if-a-b-7.false (differ _ c.if-a-b-8.true)))))))

pub returns : goal.returns
unfolding equal_of
returns c = pass c.if-a-b.false (pass c.if-a-b-2.false (pass c.if-a-b-3.false (pass c.if-a-b-4.false (pass c.if-a-b-5.false (pass c.if-a-b-6.false
    (pass c.if-a-b-7.false (pass c.if-a-b-8.false c.later_agree.ensures)))))))
