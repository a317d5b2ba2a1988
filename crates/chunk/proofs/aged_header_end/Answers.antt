-- 3, then where the header ends. Assumes nothing.
use mathlib.Core.Path.{sym, ◌∙◌}
use Rattle.answers.specs.Tells.{told_of}
use Rattle.reading.proofs.Going.{end_passed, ended}
use Rattle.chunk.proofs.aged_header_end.Goals as goal

pub returns : goal.returns
returns c = c.header_end.ensures ∙ sym (ended _ _ _ _ c.in_ok-end.ensures)

pub returns-in_err-end : goal.returns-in_err-end
returns-in_err-end c = end_passed told_of _ _ _ c.in_err-end.ensures c.from_residual.ensures.1
