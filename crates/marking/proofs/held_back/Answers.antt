-- 3, then the refusals of `take`, then what the bytes say. Assumes nothing.
use mathlib.Core.Path.{sym, ◌∙◌}
use Rattle.marking.specs.Marks.{held_tells}
use Rattle.reading.proofs.Going.{end_passed, take_passed, ended, end_is}
use Rattle.reading.proofs.Whole.{end_known}
use Rattle.marking.proofs.Answering.{held_said}
use Rattle.marking.proofs.held_back.Goals as goal

pub returns : goal.returns
returns c = held_said _ c.args.bytes.now c.in_ok-taken.taken c.late_bytes.result (end_known _ _ c.in_ok-from.ensures).0 c.in_ok-taken.ensures
    (rw (← end_is _ _ c.in_ok-from.ensures) c.late_bytes.ensures)

pub returns-in_err-from : goal.returns-in_err-from
returns-in_err-from c = end_passed held_tells _ _ _ c.in_err-from.ensures c.from_residual.ensures.1

pub returns-in_err-taken : goal.returns-in_err-taken
returns-in_err-taken c = take_passed held_tells _ _ _ c.in_err-taken.ensures c.from_residual-in_err-taken.ensures.1 ∙ sym (ended _ _ _ _ c.in_ok-from.ensures)
