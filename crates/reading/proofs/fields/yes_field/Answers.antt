-- Field f is yes when its byte is not 0 and it ends within the limit. Assumes nothing.
use mathlib.Core.Path.{sym, ap}
use mathlib.Core.Bool.{not, and-true}
use mathlib.Core.List.{List}
use Prim.Native.Nat.{ℕ}
use Rattle.record.specs.Table.{all_zero}
use Rattle.reading.proofs.FieldBytes.{read_row, zero_is}
use Rattle.reading.proofs.fields.yes_field.Goals as goal

pub returns-then-f-limit : goal.returns-then-f-limit
returns-then-f-limit c = rw (← read_row _ _ _ 0 c.requires.0 c.requires.1.1 c.if-f-limit.true, and-true)

pub returns-else-f-limit : goal.returns-else-f-limit
returns-else-f-limit c = ap (λ (l : List ℕ). not (all_zero l)) (sym (zero_is _ _ _ 1 c.requires.1.1 c.if-f-limit.false))
