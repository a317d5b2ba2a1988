-- `put_label` puts its words in a row. Assumes nothing.
use Rattle.buffer.proofs.Putting.{put_put}
use Rattle.buffer.proofs.put_label.Goals as goal

pub returns : goal.returns
returns c = search put_put
