-- The exact end; else what `take` answers of the bytes from the offset on. Assumes nothing.
use mathlib.Core.Path.{sym, ap, ◌∙◌}
use borrow.Author.Rules.{rules}
use Rattle.reading.specs.Reading.{take_of}
use Rattle.laws.proofs.Lists.{rest_from}
use Rattle.runs.proofs.Along.{at_end}
use Rattle.runs.proofs.Records.{record_run, front_answered}
use Rattle.runs.proofs.front_at.Goals as goal

pub returns-then-offset-bytes : goal.returns-then-offset-bytes
returns-then-offset-bytes c = sym (at_end (record_run c.args.bytes.now) _ c.if-offset-bytes.true)

pub returns : goal.returns
returns c = c.front_of.ensures
    ∙ sym (front_answered c.args.bytes.now c.args.offset c.if-offset-bytes.false c.take.result
    (c.take.ensures ∙ ap take_of (rest_from c.args.bytes.now c.args.offset _ c.lesser-from.ensures)))
