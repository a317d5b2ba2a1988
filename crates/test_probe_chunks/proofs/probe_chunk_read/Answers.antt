-- What the reader's step shows. Assumes nothing.
use Rattle.test_probe_chunks.proofs.Answers.{shows}
use borrow.Author.Rules.{rules}
use Rattle.test_probe_chunks.proofs.probe_chunk_read.Goals as goal

pub returns-clause-value : goal.returns-clause-value
returns-clause-value c = (shows c.read_chunk_at.result _ _ _ _ c.read_chunk_at.ensures (c.shown.ensures.value, c.shown.ensures.out_after)).0

pub returns-clause-out_after : goal.returns-clause-out_after
returns-clause-out_after c = (shows c.read_chunk_at.result _ _ _ _ c.read_chunk_at.ensures (c.shown.ensures.value, c.shown.ensures.out_after)).1
