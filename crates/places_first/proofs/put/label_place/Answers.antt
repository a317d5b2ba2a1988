-- The words are put where the number is not 0. Assumes nothing.
use Rattle.places.proofs.Laws.{place_said, place_silent, some_said, none_said}
use Rattle.places_first.proofs.put.label_place.Goals as goal

pub returns-then-n-eq0 : goal.returns-then-n-eq0
returns-then-n-eq0 c = place_silent _ (none_said _ c.if-n-eq0.true)

pub returns : goal.returns
returns c = place_said (some_said _ c.if-n-eq0.false) c.dash-a.ensures c.put_label.ensures
