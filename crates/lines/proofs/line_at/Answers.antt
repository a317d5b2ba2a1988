-- The record that stands at the offset, or the stop. Assumes nothing.
use mathlib.Core.Path.{◌≡◌, sym, ap, ◌∙◌}
use mathlib.Core.List.{List}
use Prim.Native.Nat.{ℕ}
use native.Mathlib.Omega.{arith}
use borrow.Author.Rules.{rules}
use Rattle.buffer.specs.Written.{written}
use Rattle.laws.proofs.Lists.{rest_is}
use Rattle.runs.proofs.Records.{front_within}
use Rattle.record_line.specs.LineIn.{line_in}
use Rattle.lines.proofs.Cases.{past_offset, record_went, stop_went}
use Rattle.lines.proofs.line_at.Goals as goal

pub returns-then-offset-index : goal.returns-then-offset-index
returns-then-offset-index c = past_offset _ _ _ _ _ (search rules)

-- a record that stands whole lies within the bytes
pub slice_bounds-write_line-count : goal.slice_bounds-write_line-count
slice_bounds-write_line-count c = omega (arith, front_within c.args.bytes.now c.args.offset _ (sym c.front_at.ensures ∙ c.in-Ok.is))

pub slice_bounds-write_line-start : goal.slice_bounds-write_line-start
slice_bounds-write_line-start c = omega (arith, front_within c.args.bytes.now c.args.offset _ (sym c.front_at.ensures ∙ c.in-Ok.is))

pub overflow_add-next : goal.overflow_add-next
overflow_add-next c = omega (arith, front_within c.args.bytes.now c.args.offset _ (sym c.front_at.ensures ∙ c.in-Ok.is))

pub overflow_add-next-in-Ok : goal.overflow_add-next-in-Ok
overflow_add-next-in-Ok c = omega (arith, front_within c.args.bytes.now c.args.offset _ (sym c.front_at.ensures ∙ c.in-Ok.is))

pub returns-in-Ok : goal.returns-in-Ok
returns-in-Ok c = let wrote = c.write_line-answer.ensures
    ∙ ap (λ (t : List ℕ). written (line_in c.args.age.0 c.in-Ok.n c.args.index c.args.offset t) c.args.out.now)
    (rest_is c.args.bytes.now c.args.offset) in
    record_went c.args.age.0 c.args.index c.args.offset c.args.bytes.now c.args.out.now (search rules) c.write_line-answer.result _ c.go_on.result
    c.requires.0 _ (sym c.front_at.ensures ∙ c.in-Ok.is) wrote c.go_on.ensures

pub returns-in-Err : goal.returns-in-Err
returns-in-Err c = stop_went c.args.age.0 c.args.index c.args.offset c.args.bytes.now c.args.out.now (search rules) c.stop_line-answer.result _
    c.go_on-in-Err.result _ (sym c.front_at.ensures ∙ c.in-Err.is) c.stop_line-answer.ensures c.go_on-in-Err.ensures
