-- Each answer is what `write_of` says. Assumes nothing.
use mathlib.Core.Path.{sym, ◌∙◌}
use native.Mathlib.Omega.{arith}
use Rattle.record.proofs.Shapes.{shaped}
use Rattle.writing.proofs.Answers.{short-is, laid-is, unread_is}
use Rattle.writing.proofs.write_long.Goals as goal

pub returns-then-not-is_tidy : goal.returns-then-not-is_tidy
returns-then-not-is_tidy c = sym (unread_is _ _ (sym c.is_tidy.ensures ∙ c.if-not-is_tidy.true))

pub returns-then-out-t : goal.returns-then-out-t
returns-then-out-t c = sym (short-is _ (shaped _ _ c.well_formed.0) _ (sym c.is_tidy.ensures ∙ c.if-not-is_tidy.false)
    (omega (arith, c.requires, c.if-out-t.true)))

pub returns : goal.returns
returns c = laid-is _ (shaped _ _ c.well_formed.0) _ (sym c.is_tidy.ensures ∙ c.if-not-is_tidy.false) _ _ _ c.requires c.if-out-t.false
    c.clear.ensures c.lay.ensures
