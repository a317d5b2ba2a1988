-- The fields before f are laid. Assumes nothing.
use mathlib.Core.Path.{◌≡◌, ◌∙◌}
use Prim.Native.Nat.{◌≤◌, ◌<◌}
use native.Mathlib.Omega.{arith}
use borrow.Author.Rules.{rules}
use lib.ListN.{length}
use Rattle.record.specs.Table.{end_of}
use Rattle.reading.proofs.Limits.{start_end}
use Rattle.writing.proofs.Held.{width_most, read_at, unread_at}
use Rattle.writing.proofs.Laid.{laid_none, laid_past, laid_more, laid_length}
use Rattle.writing.proofs.lay.Goals as goal
use Rattle.writing.proofs.lay.Goals.{then-end-t, else-end-t}

pub loop-f-init : goal.loop-f-init
loop-f-init c = (c.requires.0, c.requires.1.0, laid_none _ _ _ c.requires.0 c.requires.1.1)

pub loop-f-preserved : goal.loop-f-preserved
loop-f-preserved c = let h : c.loop-f.f < 15 = omega arith in
    let k = laid_length c.args.r c.args.out.now c.args.t c.loop-f.f c.loop-f.out c.loop-f.invariant.2 c.loop-f.auto.out c.loop-f.invariant.1 in
    let j = start_end c.loop-f.f h in (
      c.loop-f.invariant.0,
      c.loop-f.invariant.1,
      elim c.if-end-t.branch [
        | then-end-t w ↦ let g : end_of c.loop-f.f ≤ c.args.t = omega (arith, w.if-end-t.true) in
            w.out-is ∙ w.put_at.ensures
            ∙ laid_more c.args.r c.args.out.now c.args.t c.loop-f.f _ c.loop-f.out (read_at c.args.r c.args.t c.loop-f.f c.loop-f.invariant.0 h g) w.field_of-x.ensures c.loop-f.invariant.2 (omega arith)
        | else-end-t w ↦ w.out-is ∙ c.loop-f.invariant.2 ∙ laid_past c.args.r c.args.out.now c.args.t c.loop-f.f (unread_at c.args.r c.args.t c.loop-f.f c.loop-f.invariant.0 h w.if-end-t.false)
      ],
    )

pub overflow_sub-end : goal.overflow_sub-end
overflow_sub-end c = omega (arith, start_end c.loop-f.f (omega arith))

pub put_at-requires : goal.put_at-requires
put_at-requires c = let n : length c.field_of-x.result ≡ 8 = search rules in
    let s = start_end c.loop-f.f (omega arith) in
    (omega (arith, s, c.if-end-t.true, c.requires.1.0, c.loop-f.auto.out), omega (arith, width_most c.loop-f.f (omega arith)))
