-- The walk's offset under the number of its stop. Assumes nothing.
use mathlib.Core.Path.{ap, ◌∙◌}
use Rattle.answers.specs.declared.Told.{Told}
use Rattle.test_probe.specs.Probe.{end_packed, paired}
use Rattle.test_probe.proofs.probe_walk.Goals as goal

pub returns : goal.returns
returns c = c.pair.ensures
    ∙ ap (λ (t : Told). paired t.number c.walk-end.result.offset) c.told.ensures
    ∙ ap end_packed c.walk-end.ensures
