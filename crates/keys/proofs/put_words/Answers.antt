-- The four words are put in a row. Assumes nothing.
use Rattle.buffer.proofs.Putting.{put_put}
use Rattle.keys.proofs.put_words.Goals as goal

pub returns : goal.returns
returns c = put_put c.put_word-a.ensures (put_put c.put_word-b.ensures (put_put c.put_word-c.ensures c.put_word.ensures))
