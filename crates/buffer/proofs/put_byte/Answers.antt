use borrow.Author.Rules.{rules}
use Rattle.buffer.proofs.Putting.{put_room, put_full}
use Rattle.buffer.proofs.put_byte.Goals as goal

pub returns-then-at-out : goal.returns-then-at-out
returns-then-at-out c = put_room _ (search rules)

pub returns-else-at-out : goal.returns-else-at-out
returns-else-at-out c = put_full _ (search rules)
