-- The first word that differs decides, or that there is none; else the parsed records do. Assumes nothing.
use Prim.Native.Nat.{◌%◌, min}
use mathlib.Core.Path.{◌≡◌}
use native.Mathlib.Omega.{arith}
use lib.ListN.{drop}
use Rattle.order_at.proofs.Alike.{alike_more}
use Rattle.order_at.proofs.Decides.{less_decides, greater_decides, alike_decides}
use Rattle.order_at.proofs.order_at.Goals as goal

pub returns-then-word_at : goal.returns-then-word_at
returns-then-word_at c = less_decides _ _ _ _ _ c.limit_at-m.ensures c.limit_at-n.ensures c.lesser-both.ensures c.if-f-lt9.true
    (c.first_apart-f.ensures.found c.if-f-lt9.true) c.word_at.ensures c.word_at-then-f-lt9.ensures c.if-word_at.true

pub returns-else-word_at : goal.returns-else-word_at
returns-else-word_at c = greater_decides _ _ _ _ _ c.limit_at-m.ensures c.limit_at-n.ensures c.lesser-both.ensures c.if-f-lt9.true
    (c.first_apart-f.ensures.found c.if-f-lt9.true) c.word_at.ensures c.word_at-then-f-lt9.ensures c.if-word_at.false

pub returns-then-first_apart-eq16 : goal.returns-then-first_apart-eq16
returns-then-first_apart-eq16 c = let x = drop c.args.p c.args.bytes.now in
    let y = drop c.args.q c.args.bytes.now in
    let whole : c.limit_at-m.result % 4 ≡ 0 = c.if-m-eq0.true in
    let words =
    c.first_apart-f.ensures.none c.if-f-lt9.false (min c.limit_at-m.result 36) (omega arith) (omega (arith, c.lesser-both.ensures)) (omega arith) in
    let rest = c.first_apart.ensures.none (omega (arith, c.if-first_apart-eq16.true)) c.limit_at-m.result whole (omega arith) (omega arith) in
    alike_decides c.args.bytes.now c.args.p c.args.q _ _ c.limit_at-m.ensures c.limit_at-n.ensures c.if-m-n.true
    (alike_more x y 4 (min c.limit_at-m.result 36) c.limit_at-m.result words (λ k from below. rest k (omega arith) below))
