-- Key, offset and count are put in a row. Assumes nothing.
use Rattle.buffer.proofs.Putting.{put_put}
use Rattle.entries.specs.Entry.{entry_of}
use Rattle.entries.proofs.put_entry.Goals as goal

pub returns : goal.returns
unfolding entry_of
returns c = put_put c.put_key-a.ensures (put_put c.put_eight-b.ensures c.put_eight.ensures)
