-- 3 and the head's refusals, then the marks of the record's part of the header. Assumes nothing.
use Prim.Native.Nat.{ℕ}
use mathlib.Core.Path.{sym, ap, ◌∙◌}
use mathlib.Core.List.{List}
use native.Mathlib.Omega.{arith}
use Rattle.std.specs.Prelude.{Ok, Err}
use Rattle.answers.proofs.Passed.{passed_on}
use Rattle.buffer.specs.Written.{outcome}
use Rattle.marking.specs.Marks.{marks_outcome}
use Rattle.chunk.proofs.Answers.{aged_way, aged_header}
use Rattle.chunk.proofs.chunk_marks.Goals as goal

pub slice_bounds-marks-count : goal.slice_bounds-marks-count
slice_bounds-marks-count c = let within = aged_header _ c.args.bytes.now _ c.in_ok-header.ensures in
    omega (arith, within.from, within.long)

pub slice_bounds-marks-start : goal.slice_bounds-marks-start
slice_bounds-marks-start c = let within = aged_header _ c.args.bytes.now _ c.in_ok-header.ensures in
    omega (arith, within.from, within.long)

pub slice_bounds-marks-end : goal.slice_bounds-marks-end
slice_bounds-marks-end c = omega (arith, (aged_header _ c.args.bytes.now _ c.in_ok-header.ensures).to)

pub returns : goal.returns
returns c = let holds = (aged_header c.args.age.0 c.args.bytes.now c.in_ok-header.header c.in_ok-header.ensures).holds in
    c.marks.ensures ∙ ap (λ (t : List ℕ). marks_outcome c.args.age.0 t c.args.out.now) holds
    ∙ sym (aged_way c.args.age.0 c.args.bytes.now _ _ (Ok c.in_ok-header.header) c.in_ok-header.ensures)

pub returns-in_err-header : goal.returns-in_err-header
returns-in_err-header c = ap (λ r. outcome r c.args.out.now) (passed_on c.from_residual.ensures.1)
    ∙ sym (aged_way c.args.age.0 c.args.bytes.now _ _ (Err c.in_err-header.field-0.0) c.in_err-header.ensures)
