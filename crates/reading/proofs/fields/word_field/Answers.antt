-- Field f is the number of its bytes where it ends within the limit, and 0 where not. Assumes nothing.
use mathlib.Core.Path.{sym, ap, ◌∙◌}
use Rattle.record.specs.Table.{le}
use Rattle.reading.proofs.FieldBytes.{read_is, zero_is}
use Rattle.reading.proofs.fields.word_field.Goals as goal

pub returns-then-f-limit : goal.returns-then-f-limit
returns-then-f-limit c = c.word.ensures ∙ ap le (sym (read_is _ _ _ 4 c.requires.1.1 c.if-f-limit.true))

pub returns-else-f-limit : goal.returns-else-f-limit
returns-else-f-limit c = ap le (sym (zero_is _ _ _ 4 c.requires.1.1 c.if-f-limit.false))
