-- The first one's refusal, the second's, then the order of both. Assumes nothing.
use mathlib.Core.Path.{sym, ap, ap₂, ◌∙◌}
use Rattle.answers.specs.Tells.{success, told_of}
use Rattle.order.specs.Order.{order_of, ordering_tells}
use Rattle.reading.proofs.Going.{take_passed, took}
use Rattle.res_table_config.proofs.Answers.{parse-refused, parse-took}
use Rattle.res_table_config.proofs.order_in.Goals as goal

pub returns : goal.returns
returns c =
    let first = parse-took _ c.in_ok-first.first c.in_ok-first.ensures in
    let second = parse-took _ c.in_ok-second.second c.in_ok-second.ensures in
    ap success (c.number.ensures ∙ ap ordering_tells (c.cmp.ensures ∙ ap₂ order_of first.1 second.1))
    ∙ sym (took _ _ _ _ first.0 ∙ took _ _ _ _ second.0)

pub returns-in_err-first : goal.returns-in_err-first
returns-in_err-first c = take_passed told_of _ _ _ (parse-refused _ _ c.in_err-first.ensures) c.from_residual.ensures.1

pub returns-in_err-second : goal.returns-in_err-second
returns-in_err-second c = take_passed told_of _ _ _ (parse-refused _ _ c.in_err-second.ensures) c.from_residual-in_err-second.ensures.1
    ∙ sym (took _ _ _ _ (parse-took _ c.in_ok-first.first c.in_ok-first.ensures).0)
