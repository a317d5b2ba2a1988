-- The places in a row. Assumes nothing.
use Rattle.places.proofs.Laws.{says_more}
use Rattle.places.specs.Places.{places_of}
use Rattle.places_first.proofs.places_from_0.Goals as goal

pub returns-clause-says : goal.returns-clause-says
unfolding places_of
returns-clause-says c = says_more (rw c.get_mcc_mnc-codes.ensures at c.label_place-a.ensures)
    (says_more (rw c.get_mcc_mnc-codes.ensures at c.label_place-b.ensures)
    (says_more c.locale_place-locale.ensures.says (rw c.get_grammatical_inflection.ensures at (rw c.from-gender.ensures at c.kind_place.ensures))))
