-- Each case puts its own words. Assumes nothing.
use Rattle.buffer.proofs.Putting.{put_nil}
use Rattle.words.proofs.input.NavigationWords.put_words.Goals as goal

pub returns-in-Any : goal.returns-in-Any
returns-in-Any c = rw c.in-Any.is put_nil

pub returns-in-Unknown : goal.returns-in-Unknown
returns-in-Unknown c = rw c.in-Unknown.is c.put_label.ensures
