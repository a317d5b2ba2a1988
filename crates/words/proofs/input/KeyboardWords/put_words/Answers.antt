-- Each case puts its own words. Assumes nothing.
use Rattle.buffer.proofs.Putting.{put_nil}
use Rattle.words.proofs.input.KeyboardWords.put_words.Goals as goal

pub returns-in-Any : goal.returns-in-Any
returns-in-Any c = rw c.in-Any.is put_nil
