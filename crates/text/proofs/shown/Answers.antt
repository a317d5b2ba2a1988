-- 3, 1, 2 or 8, and 4 in their order, then the reading at the age. Assumes nothing.
use mathlib.Core.Path.{refl, sym, ap, ◌∙◌}
use Rattle.std.specs.Prelude.{Ok}
use Rattle.reading.proofs.Going.{end_passed, take_passed, ended, end_is, took}
use Rattle.reading.proofs.Limits.{read_aged}
use Rattle.reading.proofs.Whole.{took_says}
use Rattle.marking.specs.Marks.{held_back}
use Rattle.text.proofs.shown.Goals as goal

pub returns-in_err-end : goal.returns-in_err-end
returns-in_err-end c = end_passed (λ r. r) _ _ _ c.in_err-end.ensures c.from_residual.ensures.1

pub returns-in_err-taken : goal.returns-in_err-taken
returns-in_err-taken c = take_passed (λ r. r) _ _ _ c.in_err-taken.ensures c.from_residual-in_err-taken.ensures.1 ∙ sym (ended _ _ _ _ c.in_ok-end.ensures)

pub returns-then-late_bytes : goal.returns-then-late_bytes
unfolding held_back
returns-then-late_bytes c =
    rw (
      ended _ _ _ _ c.in_ok-end.ensures,
      took _ _ _ _ c.in_ok-taken.ensures,
      ← (took_says _ _ c.in_ok-taken.ensures).0,
      ← end_is _ _ c.in_ok-end.ensures,
      ← c.late_bytes.ensures,
      c.if-late_bytes.true,
    ) refl

pub returns : goal.returns
unfolding held_back
returns c =
    let says = took_says _ _ c.in_ok-taken.ensures in
    rw (ended _ _ _ _ c.in_ok-end.ensures, took _ _ _ _ c.in_ok-taken.ensures, ← says.0, ← end_is _ _ c.in_ok-end.ensures, ← c.late_bytes.ensures, c.if-late_bytes.false)
    (ap Ok (rw c.lesser.ensures at c.read_to.ensures ∙ read_aged _ _ _ says.0 says.1))
