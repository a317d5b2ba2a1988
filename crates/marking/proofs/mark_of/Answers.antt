-- Each way out gives the mark that 01 says. Assumes nothing.
use mathlib.Core.Path.{sym, ap, ◌∙◌}
use mathlib.Core.Bool.{Bool, cond}
use Rattle.mark.specs.declared.Mark.{Mark}
use Rattle.marking.proofs.Marking.{mark_unknown, mark_absent, mark_held}
use Rattle.marking.proofs.mark_of.Goals as goal

pub returns-then-age-end : goal.returns-then-age-end
returns-then-age-end c = mark_unknown c.args.age c.args.t c.args.bytes.now c.args.start c.args.end c.if-age-end.true

pub returns-then-t-end : goal.returns-then-t-end
returns-then-t-end c = mark_absent c.args.age c.args.t c.args.bytes.now c.args.start c.args.end c.if-age-end.false c.if-t-end.true

pub returns-then-late_bytes : goal.returns-then-late_bytes
returns-then-late_bytes c = ap (λ (b : Bool). cond b Mark.Filled Mark.Blank) (sym c.if-late_bytes.true ∙ c.late_bytes.ensures)
    ∙ mark_held c.args.age c.args.t c.args.bytes.now c.args.start c.args.end c.if-age-end.false c.if-t-end.false

pub returns-else-late_bytes : goal.returns-else-late_bytes
returns-else-late_bytes c = ap (λ (b : Bool). cond b Mark.Filled Mark.Blank) (sym c.if-late_bytes.false ∙ c.late_bytes.ensures)
    ∙ mark_held c.args.age c.args.t c.args.bytes.now c.args.start c.args.end c.if-age-end.false c.if-t-end.false
