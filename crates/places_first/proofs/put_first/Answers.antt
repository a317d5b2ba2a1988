-- Four groups, from an empty text on. Assumes nothing.
use Rattle.places.proofs.Laws.{says_both, said_all}
use Rattle.places.specs.Places.{places_of}
use Rattle.places_first.proofs.put_first.Goals as goal

pub returns : goal.returns
unfolding places_of
returns c = let size = says_both c.places_from_8-c.ensures c.places_from_10.ensures in
    record {
      puts = said_all (says_both (says_both c.places_from_0-a.ensures.says c.places_from_4-b.ensures) size);
      counts = c.places_from_0-a.ensures.replacements_value;
    }
