-- The lower half is put, and then the upper. Assumes nothing.
use Rattle.buffer.proofs.Putting.{put_put}
use Rattle.entries.proofs.put_eight.Goals as goal

pub returns : goal.returns
returns c = put_put c.put_four-a.ensures c.put_four.ensures
