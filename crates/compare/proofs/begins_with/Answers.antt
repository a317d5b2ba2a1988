-- `begins_with` compares the front that is as long as the word. Assumes nothing.
use mathlib.Core.Path.{◌∙◌}
use native.Mathlib.Omega.{arith}
use Rattle.compare.proofs.Compare.{begins_short, begins_is}
use Rattle.compare.proofs.begins_with.Goals as goal

pub returns-then-s-n : goal.returns-then-s-n
returns-then-s-n c = begins_short _ _ (omega arith)

pub returns : goal.returns
returns c = c.same.ensures ∙ begins_is _ _
