-- `density_value` gives the number of a density that has no word. Assumes nothing.
use mathlib.Core.Path.{sym, ap, ◌∙◌}
use mathlib.Core.List.{[]}
use native.Mathlib.Omega.{arith}
use Rattle.buffer.specs.Ascii.{ascii}
use Rattle.kinds.specs.Screen.{density_of}
use Rattle.forms.specs.Values.{unnamed}
use Rattle.forms.proofs.Values.{number_most, named_or_not, unknown_is}
use Rattle.forms.proofs.Ways.{density_none, density_is}
use Rattle.forms.proofs.density_value.Goals as goal

pub returns-in_err-number : goal.returns-in_err-number
returns-in_err-number c = rw c.from_residual.ensures (λ h. omega (arith, density_none c.args.s.now (omega (arith, c.in_err-number.ensures))))

pub overflow_cast-number : goal.overflow_cast-number
overflow_cast-number c = omega (arith, c.in_ok-number.ensures, number_most [] (ascii "dpi") c.args.s.now)

pub returns-in-Unknown : goal.returns-in-Unknown
returns-in-Unknown c =
    let d = sym c.from.ensures ∙ c.in-Unknown.is in
    let u = unknown_is c.in_ok-number.number c.in-Unknown.v d in
    let e = sym (ap unnamed d) ∙ ap (λ n. unnamed (density_of n)) c.in_ok-number.ensures.1 ∙ density_is c.args.s.now in
    (omega (arith, u, e, c.in_ok-number.ensures), c.from-in-Unknown.ensures ∙ e)

pub returns-in_default : goal.returns-in_default
returns-in_default c =
    let e = ap (λ n. unnamed (density_of n)) c.in_ok-number.ensures.1 ∙ density_is c.args.s.now in
    λ h. c.in_default.not-Unknown _ (c.from.ensures ∙ named_or_not c.in_ok-number.number (omega (arith, e)))
