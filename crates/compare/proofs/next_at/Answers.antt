-- `next_at` looks for the byte from the offset on, if that is no further than the end. Assumes nothing.
use Prim.Native.Nat.{◌+◌}
use mathlib.Core.Path.{ap, ◌∙◌}
use native.Mathlib.Omega.{arith}
use borrow.Author.Rules.{rules}
use lib.Dec.{eqb}
use Rattle.std.proofs.Common.{tests}
use Rattle.std.proofs.lemmas.Iterator.{YieldsList-from_slice}
use Rattle.std.proofs.lemmas.Iterator.Search.{position_from_yields_List}
use Rattle.laws.proofs.Lists.{rest_is}
use Rattle.compare.specs.Compare.{up_to}
use Rattle.compare.proofs.Compare.{up_end, up_first}
use Rattle.compare.proofs.next_at.Goals as goal

pub returns-in_default : goal.returns-in_default
returns-in_default c = omega (arith, up_end c.args.b c.args.s.now c.args.at (omega (arith, c.in_default.ensures.lookup.0)))

pub returns : goal.returns
returns c =
    let rest = c.in-Some.rest.now in
    let p = position_from_yields_List (λ x. eqb x c.args.b) _ _ c.position.result c.position.ensures.ran (YieldsList-from_slice rest c.iter.ensures.rest) (λ x d q k. search (rules, tests)) in
    let e = c.in-Some.ensures.lookup.0.2 ∙ rest_is c.args.s.now c.args.at in
    ap (λ n. c.args.at + n) (c.unwrap_or.ensures ∙ up_first c.args.b rest _ p ∙ ap (up_to c.args.b) e)
