-- Parsing refuses, or its record is put into words. Assumes nothing.
use mathlib.Core.Path.{sym, ap, ◌∙◌}
use Rattle.answers.proofs.Passed.{passed_on}
use Rattle.reading.proofs.Whole.{refused_whole}
use Rattle.buffer.specs.Counted.{counted_outcome}
use Rattle.text.proofs.Answers.{plain-refused, plain-whole, refused-counted}
use Rattle.text.proofs.plain_text.Goals as goal

pub returns : goal.returns
returns c = c.as_string.ensures ∙ plain-whole _ _ c.in_ok-parsed.parsed c.in_ok-parsed.ensures

pub returns-in_err-parsed : goal.returns-in_err-parsed
returns-in_err-parsed c = let why = c.in_err-parsed.field-0.0 in
    ap (λ r. counted_outcome r c.args.out.now) (passed_on c.from_residual.ensures.1)
    ∙ refused-counted why _ (sym (refused_whole c.args.bytes.now _ _ why (plain-refused c.args.bytes.now c.args.out.now why c.in_err-parsed.ensures)))
