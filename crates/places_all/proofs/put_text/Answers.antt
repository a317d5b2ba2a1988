-- The first places, and the others behind them. Assumes nothing.
use lib.ListN.{take}
use Rattle.places.proofs.Laws.{says_more, says_both, said_more}
use Rattle.places.specs.Places.{places_of, text_of}
use Rattle.places_all.proofs.put_text.Goals as goal

pub returns : goal.returns
unfolding places_of text_of
returns c = let sides = says_more c.pixel_place-e.ensures c.version_place.ensures in
    let keys = says_both c.places_from_18-d.ensures sides in
    let screen = says_both c.places_from_16-c.ensures keys in
    record {
      puts = said_more (take 13 (places_of c.args.r)) c.put_first-a.ensures.puts (says_both c.places_from_13-b.ensures screen);
      counts = c.put_first-a.ensures.counts;
    }
