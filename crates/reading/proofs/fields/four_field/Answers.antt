-- Field f is its bytes where it ends within the limit, and zeros where not. Assumes nothing.
use mathlib.Core.Path.{sym}
use Rattle.reading.proofs.FieldBytes.{read_row, zero_is}
use Rattle.reading.proofs.fields.four_field.Goals as goal

pub returns-then-f-limit : goal.returns-then-f-limit
returns-then-f-limit c = read_row _ _ _ 3 c.requires.0 c.requires.1.1 c.if-f-limit.true

pub returns-else-f-limit : goal.returns-else-f-limit
returns-else-f-limit c = sym (zero_is _ _ _ 4 c.requires.1.1 c.if-f-limit.false)
