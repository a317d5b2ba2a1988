-- 3, 1, 2 or 8, and 4 by whether the record is shown, then the count. Assumes nothing.
use mathlib.Core.Path.{ap, ◌∙◌}
use Rattle.std.specs.Prelude.{Ok, Err}
use Rattle.answers.specs.Tells.{success, told_of}
use Rattle.answers.proofs.Passed.{passed_on}
use Rattle.text.proofs.Answers.{count-shown}
use Rattle.text.proofs.replacements.Goals as goal

pub returns : goal.returns
returns c = ap success c.replacements_in.ensures ∙ count-shown _ _ (Ok c.in_ok-shown.field-0) c.in_ok-shown.ensures

pub returns-in_err-shown : goal.returns-in_err-shown
returns-in_err-shown c = ap told_of (passed_on c.from_residual.ensures.1) ∙ count-shown _ _ (Err c.in_err-shown.field-0.0) c.in_err-shown.ensures
