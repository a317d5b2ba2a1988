-- What the stop of the walk carries. Assumes nothing.
use mathlib.Core.Path.{ap, ◌∙◌}
use Rattle.answers.specs.declared.Told.{Told}
use Rattle.test_probe.specs.Probe.{end_row}
use Rattle.test_probe.proofs.probe_row.Goals as goal

pub returns : goal.returns
returns c = ap (λ (t : Told). t.carried) c.told.ensures ∙ ap end_row c.walk-end.ensures
