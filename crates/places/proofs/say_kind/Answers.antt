-- The dash, and then the words. Assumes nothing.
use Rattle.buffer.proofs.Putting.{put_put}
use Rattle.places.proofs.say_kind.Goals as goal

pub returns : goal.returns
returns g c = put_put c.dash-a.ensures c.put_words.ensures
