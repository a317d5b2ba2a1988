-- The dash stands behind something. Assumes nothing.
use borrow.Author.Tests.{le-ltb}
use Rattle.buffer.proofs.Putting.{put_nil}
use Rattle.places.proofs.dash.Goals as goal

pub returns-else-at-gt0 : goal.returns-else-at-gt0
returns-else-at-gt0 c = rw (le-ltb 0 _ c.if-at-gt0.false) put_nil
