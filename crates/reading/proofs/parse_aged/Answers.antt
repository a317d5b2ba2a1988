-- An age that is none of the twelve is refused first; of the others the reading is at that age. Assumes nothing.
use mathlib.Core.Path.{sym, ap, ◌∙◌}
use Rattle.answers.proofs.Passed.{passed_on}
use Rattle.reading.specs.Reading.{parsed_outcome}
use Rattle.reading.proofs.Whole.{age_known, age_refused, end_known}
use Rattle.reading.proofs.parse_aged.Goals as goal

pub returns : goal.returns
returns c = let known = end_known c.args.age.0 c.in_ok-end.end c.in_ok-end.ensures in
    rw (age_known c.args.age.0 _ _ known.0, ← known.1) c.parse_to.ensures

pub returns-in_err-end : goal.returns-in_err-end
returns-in_err-end c = ap parsed_outcome (passed_on c.from_residual.ensures.1) ∙ sym (age_refused _ _ _ _ c.in_err-end.ensures)
