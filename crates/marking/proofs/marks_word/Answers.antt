-- 3, then the refusals of `take`, then the word is given. Assumes nothing.
use mathlib.Core.Path.{sym, ap, ◌∙◌}
use Rattle.answers.specs.Tells.{success, told_of}
use Rattle.reading.proofs.Going.{end_passed, take_passed, ended, end_is, took}
use Rattle.reading.proofs.Whole.{took_says}
use Rattle.marking.proofs.marks_word.Goals as goal

pub returns : goal.returns
returns c = rw (ended _ _ _ _ c.in_ok-end.ensures, took _ _ _ _ c.in_ok-taken.ensures, ← (took_says _ _ c.in_ok-taken.ensures).0, ← end_is _ _ c.in_ok-end.ensures)
    (ap success c.word_in.ensures)

pub returns-in_err-end : goal.returns-in_err-end
returns-in_err-end c = end_passed told_of _ _ _ c.in_err-end.ensures c.from_residual.ensures.1

pub returns-in_err-taken : goal.returns-in_err-taken
returns-in_err-taken c = take_passed told_of _ _ _ c.in_err-taken.ensures c.from_residual-in_err-taken.ensures.1 ∙ sym (ended _ _ _ _ c.in_ok-end.ensures)
