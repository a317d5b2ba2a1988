-- The call is that on the bytes from the offset on. Assumes nothing.
use mathlib.Core.Path.{ap, ◌∙◌}
use mathlib.Core.List.{List}
use Prim.Native.Nat.{ℕ}
use Rattle.marking.specs.Marks.{marks_outcome}
use Rattle.laws.proofs.Lists.{rest_from}
use borrow.Author.Rules.{rules}
use Rattle.shown_at.proofs.marks_at.Goals as goal

pub returns : goal.returns
returns c = c.marks.ensures
    ∙ ap (λ (t : List ℕ). marks_outcome c.args.age.0 t c.args.out.now) (rest_from c.args.bytes.now c.args.offset _ c.lesser-from.ensures)
