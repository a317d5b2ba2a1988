-- 7, then 3, then the line at the cursor. Assumes nothing.
use mathlib.Core.Path.{sym, ◌∙◌}
use borrow.Author.Rules.{rules}
use borrow.Author.Tests.{not-true, not-false}
use Rattle.lines.proofs.Cases.{too_much, no_age, at_age, start_went, end_stays}
use Rattle.lines.proofs.line.Goals as goal

pub returns-then-bytes-gt-MOST_BYTES : goal.returns-then-bytes-gt-MOST_BYTES
returns-then-bytes-gt-MOST_BYTES c = too_much _ _ _ _ c.if-bytes-gt-MOST_BYTES.true

pub returns-then-not-is_age : goal.returns-then-not-is_age
returns-then-not-is_age c = no_age _ _ _ _ (search rules) (sym (c.if-not-is_age.true) ∙ c.is_age.ensures)

pub returns-in-Start : goal.returns-in-Start
returns-in-Start c = let e = at_age _ c.args.bytes.now c.args.cursor c.args.out.now (search rules)
    (sym (c.if-not-is_age.false) ∙ c.is_age.ensures) in
    rw (e, c.in-Start.is)
    (start_went _ _ _ c.age_line-answer.result _ c.go_on.result c.age_line-answer.ensures c.go_on.ensures)

pub returns-in-Record : goal.returns-in-Record
returns-in-Record c = let e = at_age _ c.args.bytes.now c.args.cursor c.args.out.now (search rules)
    (sym (c.if-not-is_age.false) ∙ c.is_age.ensures) in
    rw (e, c.in-Record.is) c.line_at.ensures

pub returns-in-End : goal.returns-in-End
returns-in-End c = let e = at_age _ c.args.bytes.now c.args.cursor c.args.out.now (search rules)
    (sym (c.if-not-is_age.false) ∙ c.is_age.ensures) in
    rw (e, c.in-End.is) (end_stays _ _ _)
