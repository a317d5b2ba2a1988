-- The words are put and counted where the first language byte is not 0. Assumes nothing.
use Rattle.places.proofs.Laws.{place_said, place_silent, some_said, none_said}
use Rattle.places_first.proofs.put.locale_place.Goals as goal

pub returns-then-r-eq0-clause-says : goal.returns-then-r-eq0-clause-says
returns-then-r-eq0-clause-says c = place_silent _ (none_said _ c.if-r-eq0.true)

pub returns-clause-says : goal.returns-clause-says
returns-clause-says c = place_said (some_said _ c.if-r-eq0.false) c.dash-a.ensures c.put_locale.ensures.puts
