-- `write_words` puts the words where they fit. Assumes nothing.
use mathlib.Core.Path.{sym}
use native.Mathlib.Omega.{arith}
use Rattle.buffer.proofs.Writing.{put_written, written_short}
use Rattle.words_length.proofs.write_words.Goals as goal

pub returns-then-n-out : goal.returns-then-n-out
returns-then-n-out c = rw c.words_length-n.ensures.value (put_written (omega (arith, c.words_length-n.ensures.value)) c.put_words.ensures)

pub returns-else-n-out : goal.returns-else-n-out
returns-else-n-out c = sym (written_short _ _ (omega (arith, c.words_length-n.ensures.value)))
