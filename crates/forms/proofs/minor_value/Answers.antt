-- `minor_value` reads two numbers behind the 'v'. Assumes nothing.
use Prim.Native.Nat.{◌<◌}
use mathlib.Core.Path.{sym, ap, subst, ◌∙◌}
use mathlib.Core.Bool.{cond}
use native.Mathlib.Omega.{arith}
use lib.Dec.{leb}
use lib.ListN.{drop}
use borrow.Author.Tests.{leb-true}
use Rattle.std.specs.Option.{SomeIff}
use Rattle.laws.proofs.Lists.{rest_is}
use Rattle.forms.specs.Values.{pair_value}
use Rattle.forms.proofs.Ways.{kept_if, pair_known, begins_some, minor_not, minor_is, minor_known}
use Rattle.forms.proofs.minor_value.Goals as goal

pub returns-then-not-begins_with : goal.returns-then-not-begins_with
returns-then-not-begins_with c = λ h. omega (arith, minor_not c.args.s.now (sym c.begins_with.ensures ∙ c.if-not-begins_with.true))

pub slice_bounds-pair_value-count : goal.slice_bounds-pair_value-count
slice_bounds-pair_value-count c = begins_some c.args.s.now (sym c.begins_with.ensures ∙ c.if-not-begins_with.false)

pub slice_bounds-pair_value-start : goal.slice_bounds-pair_value-start
slice_bounds-pair_value-start c = begins_some c.args.s.now (sym c.begins_with.ensures ∙ c.if-not-begins_with.false)

pub returns-in_err-version : goal.returns-in_err-version
returns-in_err-version c =
    rw c.from_residual.ensures
    (λ h. c.in_err-version.ensures (rw (rest_is c.args.s.now 1) (pair_known 46 (drop 1 c.args.s.now) (minor_known c.args.s.now h))))

pub returns : goal.returns
returns c =
    let n = c.in_ok-version.version in
    let v = c.in_ok-version.ensures.1 ∙ ap (pair_value 46) (rest_is c.args.s.now 1) in
    let k = kept_if (leb 65536 n) n (λ l. omega (arith, leb-true 65536 n l)) c.then_some.ensures in
    subst (λ m. SomeIff c.then_some.result (0 < m) m) (ap (λ m. cond (leb 65536 m) m 0) v ∙ minor_is c.args.s.now (sym c.begins_with.ensures ∙ c.if-not-begins_with.false)) k
