-- The exact end; else what `take_chunk` answers of the bytes from the offset on. Assumes nothing.
use mathlib.Core.Path.{sym, ap, ◌∙◌}
use borrow.Author.Rules.{rules}
use Rattle.chunk.specs.Chunk.{chunk_take}
use Rattle.laws.proofs.Lists.{rest_from}
use Rattle.runs.proofs.Along.{at_end}
use Rattle.chunk_runs.proofs.Chunks.{chunk_run, chunk_answered}
use Rattle.chunk_runs.proofs.chunk_at.Goals as goal

pub returns-then-offset-bytes : goal.returns-then-offset-bytes
returns-then-offset-bytes c = sym (at_end (chunk_run c.args.bytes.now) _ c.if-offset-bytes.true)

pub returns : goal.returns
returns c = c.front_of.ensures
    ∙ sym (chunk_answered c.args.bytes.now c.args.offset c.if-offset-bytes.false c.take_chunk.result
    (c.take_chunk.ensures ∙ ap chunk_take (rest_from c.args.bytes.now c.args.offset _ c.lesser-from.ensures)))
