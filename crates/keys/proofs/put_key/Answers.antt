-- Eight words and the later fields are put in a row. Assumes nothing.
use Rattle.buffer.proofs.Putting.{put_put}
use Rattle.keys.specs.Keys.{key_of}
use Rattle.keys.proofs.put_key.Goals as goal

pub returns : goal.returns
unfolding key_of
returns c = put_put c.put_words-a.ensures (put_put c.put_words-b.ensures c.put_later.ensures)
