-- Each case puts its own words. Assumes nothing.
use Rattle.buffer.proofs.Putting.{put_nil}
use Rattle.words.proofs.input.KeysHiddenWords.put_words.Goals as goal

pub returns-in-Any : goal.returns-in-Any
returns-in-Any c = rw c.in-Any.is put_nil

pub returns-in-No : goal.returns-in-No
returns-in-No c = rw c.in-No.is c.put.ensures
