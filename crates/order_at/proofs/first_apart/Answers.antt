-- The loop passes the words that agree. Assumes nothing.
use Prim.Native.Nat.{◌+◌, ◌*◌}
use mathlib.Core.Path.{sym, ◌∙◌}
use native.Mathlib.Omega.{arith}
use lib.ListN.{drop, length-drop}
use Rattle.record.specs.Table.{Bytes}
use Rattle.order_at.proofs.Alike.{drop_bytes, word_alike, alike_more}
use Rattle.order_at.proofs.first_apart.Goals as goal

pub loop-f-preserved : goal.loop-f-preserved
loop-f-preserved c = let x = drop c.args.p c.args.bytes.now in
    let y = drop c.args.q c.args.bytes.now in
    let bytes : Bytes c.args.bytes.now = λ i. omega (arith, c.shared_slice_known-1.given i) in
    let more =
    word_alike x y c.loop-f.f (drop_bytes c.args.p c.args.bytes.now bytes) (drop_bytes c.args.q c.args.bytes.now bytes)
    (omega (arith, length-drop c.args.p c.args.bytes.now)) (omega (arith, length-drop c.args.q c.args.bytes.now))
    (sym c.word_at.ensures ∙ c.if-word_at.false ∙ c.word_at-in-loop-f.ensures) in
    λ k from below. alike_more x y _ (4 * c.loop-f.f) (4 * c.loop-f.f + 4) c.loop-f.invariant more k from (omega arith)
