-- `pair_value` reads what stands before the byte, and what stands behind it. Assumes nothing.
use Prim.Native.Nat.{◌+◌}
use mathlib.Core.Path.{◌≡◌, ◌∙◌}
use native.Mathlib.Omega.{arith}
use lib.ListN.{length, drop, length-drop}
use Rattle.laws.proofs.Lists.{rest_is}
use Rattle.compare.specs.Compare.{up_to}
use Rattle.numbers.proofs.Numbers.{number_empty}
use Rattle.forms.proofs.Ways.{BothSmall, pair_is}
use Rattle.forms.proofs.pair_value.Goals as goal

pub returns-in_err-behind : goal.returns-in_err-behind
returns-in_err-behind c =
    let s = c.args.s.now in
    let l : length (drop (up_to c.args.b s + 1) s) ≡ 0 = length-drop (up_to c.args.b s + 1) s ∙ omega (arith, c.in_err-behind.ensures.lookup.0, c.up_to-k.ensures.value) in
    rw c.from_residual.ensures (λ h. omega (arith, h.1, number_empty (drop (up_to c.args.b s + 1) s) l))

pub returns : goal.returns
returns c =
    let s = c.args.s.now in
    let k = c.up_to-k.ensures.value in
    let n = rw k at c.in_ok-n.ensures in
    let r = c.in_ok-behind.ensures.lookup.0.2 ∙ rest_is s (c.up_to-k.result + 1) in
    let m = rw (r, k) at c.in_ok-m.ensures in
    let both : BothSmall c.args.b s = (n.0, m.0) in
    (both, omega (arith, pair_is c.args.b s both, n.1, m.1, c.from.ensures, c.from-2.ensures))
