-- The sign and the region, where there is one. Assumes nothing.
use Prim.Native.Nat.{◌/◌, ◌%◌}
use mathlib.Core.Path.{ap}
use mathlib.Core.Bool.{not}
use native.Mathlib.Omega.{arith}
use borrow.Author.Rules.{rules}
use borrow.Author.Tests.{ne_eqb}
use Rattle.language.proofs.Long.{region_long}
use Rattle.locale.specs.Locale.{region}
use Rattle.locale.proofs.Long.{behind_there_long}
use Rattle.locale.proofs.own_region_length.Goals as goal

pub overflow_add-result : goal.overflow_add-result
overflow_add-result c = omega (arith, c.region_length.ensures, region_long (c.args.r.locale / 65536 % 256) (c.args.r.locale / 16777216) (search rules))

pub returns : goal.returns
returns c = let long = region_long (c.args.r.locale / 65536 % 256) (c.args.r.locale / 16777216) (search rules) in
    let behind = behind_there_long c.args.sign.now (region c.args.r) (ap not (ne_eqb _ _ c.if-locale-eq0.false)) in
    (omega (arith, behind, c.region_length.ensures), omega (arith, long, c.requires, c.region_length.ensures))
