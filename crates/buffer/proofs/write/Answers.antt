-- `write` writes all of the bytes, or refuses. Assumes nothing.
use mathlib.Core.Path.{sym}
use borrow.Author.Rules.{rules}
use Rattle.buffer.proofs.Writing.{put_written, written_short}
use Rattle.buffer.proofs.write.Goals as goal

pub returns-then-n-out : goal.returns-then-n-out
returns-then-n-out c = put_written (search rules) c.put.ensures

pub returns-else-n-out : goal.returns-else-n-out
returns-else-n-out c = sym (written_short _ _ (search rules))
