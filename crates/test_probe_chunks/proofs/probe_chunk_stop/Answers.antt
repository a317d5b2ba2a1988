-- What the stop of the walk tells, packed. Assumes nothing.
use mathlib.Core.Path.{ap, ◌∙◌}
use Rattle.answers.specs.Tells.{packed_of}
use Rattle.runs.specs.declared.RunEnd.{RunEnd}
use Rattle.runs.specs.Fronts.{stop_tells}
use Rattle.test_probe_chunks.proofs.probe_chunk_stop.Goals as goal

pub returns : goal.returns
returns c = c.packed.ensures ∙ ap packed_of (c.told.ensures ∙ ap (λ (e : RunEnd). stop_tells e.stop) c.walk_chunks-end.ensures)
