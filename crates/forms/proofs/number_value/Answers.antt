-- `number_value` takes the front and the back away, and reads what stands between. Assumes nothing.
use native.Mathlib.Omega.{arith}
use mathlib.Core.Path.{◌∙◌}
use Rattle.forms.proofs.Ways.{front_not, back_not, between_none, between_some, kept_positive}
use Rattle.forms.proofs.number_value.Goals as goal

pub returns-in_err-strip_prefix : goal.returns-in_err-strip_prefix
returns-in_err-strip_prefix c = rw c.from_residual.ensures (λ h. omega (arith, front_not c.args.front.now c.args.back.now c.args.s.now c.in_err-strip_prefix.ensures.cases))

pub returns-in_err-digits : goal.returns-in_err-digits
returns-in_err-digits c = let p = c.in_ok-strip_prefix.ensures.cases in
    rw c.from_residual-in_err-digits.ensures (λ h. omega (arith, back_not c.args.front.now c.args.back.now c.args.s.now c.in_ok-strip_prefix.field-0.now p.0 p.1 c.in_err-digits.ensures.cases))

pub returns-in_err-number_in : goal.returns-in_err-number_in
returns-in_err-number_in c = let p = c.in_ok-strip_prefix.ensures.cases in let q = c.in_ok-digits.ensures.cases in
    rw c.from_residual-in_err-number_in.ensures
    (λ h. omega (arith, between_none c.args.front.now c.args.back.now c.args.s.now c.in_ok-strip_prefix.field-0.now p.0 p.1 c.in_ok-digits.digits.now q.0 q.1 q.2 c.in_err-number_in.ensures))

pub returns : goal.returns
returns c = let p = c.in_ok-strip_prefix.ensures.cases in let q = c.in_ok-digits.ensures.cases in
    let e = between_some c.args.front.now c.args.back.now c.args.s.now c.in_ok-strip_prefix.field-0.now p.0 p.1 c.in_ok-digits.digits.now q.0 q.1 q.2 c.in_ok-number_in.ensures.0 in
    kept_positive c.from-number.result _ (c.from-number.ensures ∙ c.in_ok-number_in.ensures.1 ∙ e) c.then_some.ensures
