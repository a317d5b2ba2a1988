-- The six fields are put in a row. Assumes nothing.
use Rattle.buffer.proofs.Putting.{put_put}
use Rattle.keys.proofs.put_later.Goals as goal

pub returns : goal.returns
returns c = put_put c.put_four-a.ensures
    (put_put c.put_eight-b.ensures
    (put_put c.put_word-c.ensures
    (put_put (rw c.bit_of.ensures at c.put_byte-d.ensures)
    (put_put c.put_eight-e.ensures c.put_three.ensures))))
