-- `write_name` refuses as reading does, or writes the record. Assumes nothing.
use mathlib.Core.Path.{ap, ◌∙◌}
use Rattle.std.specs.Prelude.{Ok, Err}
use Rattle.answers.proofs.Passed.{passed_on}
use Rattle.buffer.specs.Written.{outcome}
use Rattle.names.proofs.Answers.{name-written}
use Rattle.names.proofs.write_name.Goals as goal

pub returns : goal.returns
returns c = c.write.ensures ∙ name-written _ _ (Ok c.in_ok-parsed.parsed) c.in_ok-parsed.ensures

pub returns-in_err-parsed : goal.returns-in_err-parsed
returns-in_err-parsed c = ap (λ r. outcome r c.args.out.now) (passed_on c.from_residual.ensures.1)
    ∙ name-written _ _ (Err c.in_err-parsed.field-0.0) c.in_err-parsed.ensures
