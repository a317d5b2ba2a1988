-- The region stands behind its sign, where there is one. Assumes nothing.
use borrow.Author.Tests.{eq-eqb, ne_eqb}
use mathlib.Core.Bool.{not}
use mathlib.Core.Path.{ap}
use Rattle.locale.specs.Locale.{region}
use Rattle.locale.specs.Subtags.{region_in}
use Rattle.locale.proofs.Behind.{behind_there, behind_none}
use Rattle.locale.proofs.put_own_region.Goals as goal

pub returns-then-locale-eq0 : goal.returns-then-locale-eq0
returns-then-locale-eq0 c = behind_none c.args.sign.now (region c.args.r) (region_in c.args.r) (ap not (eq-eqb _ _ c.if-locale-eq0.true))

pub returns : goal.returns
returns c = behind_there c.args.sign.now (region c.args.r) (region_in c.args.r) (ap not (ne_eqb _ _ c.if-locale-eq0.false))
    c.put-a.ensures c.put_region.ensures
