-- The text of what is shown, or why it isn't. Assumes nothing.
use mathlib.Core.Path.{ap, ◌∙◌}
use Rattle.answers.proofs.Passed.{passed_on}
use Rattle.buffer.specs.Counted.{counted_outcome}
use Rattle.text.proofs.Answers.{aged-refused, aged-whole}
use Rattle.text.proofs.aged_text.Goals as goal

pub returns : goal.returns
returns c = c.as_string.ensures ∙ aged-whole _ _ _ _ c.in_ok-record.ensures

pub returns-in_err-record : goal.returns-in_err-record
returns-in_err-record c = ap (λ r. counted_outcome r c.args.out.now) (passed_on c.from_residual.ensures.1) ∙ aged-refused _ _ _ _ c.in_err-record.ensures
