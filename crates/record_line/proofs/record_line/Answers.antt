-- 3, then the refusals of `take`, then the line is written. Assumes nothing.
use mathlib.Core.Path.{sym, ◌∙◌}
use Rattle.buffer.specs.Written.{outcome}
use Rattle.reading.proofs.Going.{end_passed, take_passed, ended}
use Rattle.reading.proofs.Whole.{end_known}
use Rattle.record_line.proofs.Answers.{line-written}
use Rattle.record_line.proofs.record_line.Goals as goal

pub returns-in_err-end : goal.returns-in_err-end
returns-in_err-end c = end_passed (λ r. outcome r c.args.out.now) _ _ _ c.in_err-end.ensures c.from_residual.ensures.1

pub returns-in_err-taken : goal.returns-in_err-taken
returns-in_err-taken c = take_passed (λ r. outcome r c.args.out.now) _ _ _ c.in_err-taken.ensures c.from_residual-in_err-taken.ensures.1
    ∙ sym (ended _ _ _ _ c.in_ok-end.ensures)

pub returns : goal.returns
returns c = line-written c.args.age.0 c.args.bytes.now (end_known _ _ c.in_ok-end.ensures).0 c.args.index c.args.offset _ _ _ c.in_ok-taken.ensures c.write_line.ensures
