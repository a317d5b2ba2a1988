-- The version is put where the word is not 0. Assumes nothing.
use Rattle.places.proofs.Laws.{place_said, place_silent, some_said, none_said}
use Rattle.buffer.proofs.Putting.{put_put}
use Rattle.places_all.proofs.put.version_place.Goals as goal

pub returns-then-r-eq0 : goal.returns-then-r-eq0
returns-then-r-eq0 c = place_silent _ (none_said _ c.if-r-eq0.true)

pub returns : goal.returns
returns c = place_said (some_said _ c.if-r-eq0.false) c.dash-a.ensures
    (rw c.get_sdk_minor_version-version.ensures at (put_put c.put_label-b.ensures c.put_minor.ensures))
