-- The fields before f are read or zero. Assumes nothing.
use mathlib.Core.Path.{◌≡◌, sym, ap, ◌∙◌}
use Prim.Native.Nat.{ℕ, ◌<◌}
use native.Mathlib.Omega.{arith}
use Rattle.laws.specs.Below.{each_below}
use Rattle.laws.proofs.Below.{each_more, each_stop}
use Rattle.reading.proofs.Limits.{start_end}
use Rattle.writing.specs.Writing.{keeps, tidy}
use Rattle.writing.proofs.Answers.{whole-tidy}
use Rattle.writing.proofs.Held.{held_is, zero_is, neither_is}
use Rattle.writing.proofs.is_tidy.Goals as goal
use Rattle.writing.proofs.is_tidy.Goals.{then-t-end+else-late_bytes, else-t-end}

pub returns-then-t-ge64 : goal.returns-then-t-ge64
returns-then-t-ge64 c = whole-tidy _ (omega (arith, c.requires, c.if-t-ge64.true))

pub returns-then-late_bytes : goal.returns-then-late_bytes
unfolding tidy
returns-then-late_bytes c = let h : c.loop-f.f < 15 = omega arith in
    sym (each_stop 15 (keeps c.args.r) c.loop-f.f h
    (neither_is c.args.r _ c.loop-f.f c.loop-f.invariant.0 h _ c.field_of-x.ensures _ c.late_bytes.ensures
    (omega (arith, c.if-t-end.true)) c.if-late_bytes.true))

pub loop-f-preserved : goal.loop-f-preserved
loop-f-preserved c = let h : c.loop-f.f < 15 = omega arith in (
  c.loop-f.invariant.0,
  each_more (keeps c.args.r) c.loop-f.f c.loop-f.invariant.1
      (elim c.if-t-end.branch [
        | then-t-end+else-late_bytes w ↦ zero_is c.args.r _ c.loop-f.f c.loop-f.invariant.0 h _ w.field_of-x.ensures _ w.late_bytes.ensures w.if-late_bytes.false
        | else-t-end w ↦ held_is c.args.r _ c.loop-f.f c.loop-f.invariant.0 h (omega (arith, w.if-t-end.false))
      ]),
)

pub returns : goal.returns
unfolding tidy
returns c = let e : c.loop-f.f ≡ 15 = omega arith in
    sym (ap (λ (n : ℕ). each_below n (keeps c.args.r)) (sym e) ∙ c.loop-f.invariant.1)

pub overflow_sub-end : goal.overflow_sub-end
overflow_sub-end c = omega (arith, start_end c.loop-f.f (omega arith))
