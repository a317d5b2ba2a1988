-- What the step tells, packed, and what the writer leaves. Assumes nothing.
use mathlib.Core.Path.{ap, ◌∙◌}
use Rattle.answers.specs.Tells.{packed_of}
use Rattle.buffer.specs.Written.{Outcome}
use borrow.Author.Rules.{rules}
use Rattle.test_probe_chunks.proofs.shown.Goals as goal

pub returns-clause-value : goal.returns-clause-value
returns-clause-value c = c.packed.ensures ∙ ap packed_of c.told.ensures

pub returns-clause-out_after : goal.returns-clause-out_after
returns-clause-out_after c = ap (λ (x : Outcome). x.leaves) c.write.ensures
