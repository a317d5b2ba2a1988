-- The search goes over the part that isn't known. Assumes nothing.
use mathlib.Core.Path.{◌∙◌}
use mathlib.Core.Bool.{not}
use lib.Dec.{eqb}
use borrow.Author.Rules.{rules}
use Rattle.std.proofs.Common.{tests}
use Rattle.std.specs.List.{between}
use Rattle.std.proofs.lemmas.Iterator.{YieldsList-from_slice}
use Rattle.std.proofs.lemmas.Iterator.Search.{any_from_yields_List}
use Rattle.marking.proofs.Zeros.{late_between}
use Rattle.marking.proofs.late_bytes.Goals as goal

pub returns-then-from-end : goal.returns-then-from-end
returns-then-from-end c =
    let part = between c.args.from c.lesser-end.result c.args.bytes.now in
    any_from_yields_List (λ b. not (eqb b 0)) _ _ _ c.any.ensures.ran (YieldsList-from_slice part cc) (λ x b q k. search (rules, tests))
    ∙ late_between c.args.bytes.now c.args.n c.args.from c.lesser-end.result c.lesser-end.ensures
