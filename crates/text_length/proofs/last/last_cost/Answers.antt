-- The parts one behind the other. Assumes nothing.
use Rattle.places.specs.Places.{places_of}
use Rattle.text_length.proofs.Total.{adds_both}
use Rattle.text_length.proofs.last.last_cost.Goals as goal

pub returns-clause-result_value : goal.returns-clause-result_value
unfolding places_of
returns-clause-result_value c = let night = adds_both _ _ c.night_cost.ensures.result_value c.screen_cost.ensures.result_value in
    let keys = adds_both _ _ night c.keys_cost.ensures.result_value in
    adds_both _ _ (adds_both _ _ keys c.pixel_cost.ensures.result_value) c.version_cost.ensures.result_value
