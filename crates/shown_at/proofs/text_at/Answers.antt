-- The call is that on the bytes from the offset on. Assumes nothing.
use mathlib.Core.Path.{ap, ◌∙◌}
use mathlib.Core.List.{List}
use Prim.Native.Nat.{ℕ}
use Rattle.text.specs.Counted.{counted_aged}
use Rattle.laws.proofs.Lists.{rest_from}
use borrow.Author.Rules.{rules}
use Rattle.shown_at.proofs.text_at.Goals as goal

pub returns : goal.returns
returns c = c.aged_text.ensures
    ∙ ap (λ (t : List ℕ). counted_aged c.args.age.0 t c.args.out.now) (rest_from c.args.bytes.now c.args.offset _ c.lesser-from.ensures)
