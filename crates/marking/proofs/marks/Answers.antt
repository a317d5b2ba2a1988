-- The letters of the word that is given, or its refusal. Assumes nothing.
use mathlib.Core.Path.{sym, ap, ◌∙◌}
use Rattle.std.specs.Prelude.{Ok, Err}
use Rattle.answers.proofs.Passed.{passed_on}
use Rattle.buffer.specs.Written.{outcome}
use Rattle.marking.proofs.Word.{marks_by}
use Rattle.marking.proofs.marks.Goals as goal

pub returns : goal.returns
returns c = c.write_letters.ensures ∙ sym (marks_by c.args.age.0 c.args.bytes.now c.args.out.now (Ok c.in_ok-word.word) c.in_ok-word.ensures)

pub returns-in_err-word : goal.returns-in_err-word
returns-in_err-word c = ap (λ r. outcome r c.args.out.now) (passed_on c.from_residual.ensures.1)
    ∙ sym (marks_by c.args.age.0 c.args.bytes.now c.args.out.now (Err c.in_err-word.field-0.0) c.in_err-word.ensures)
