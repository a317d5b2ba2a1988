-- The parts one behind the other, the dp values between those of the layout. Assumes nothing.
use lib.ListN.{take, drop}
use Rattle.places.specs.Places.{places_of}
use Rattle.text_length.proofs.Total.{adds_both, adds_between}
use Rattle.text_length.proofs.first.first_cost.Goals as goal

pub returns-clause-result_value : goal.returns-clause-result_value
unfolding places_of
returns-clause-result_value c = let codes = adds_both _ _ c.codes_cost.ensures.result_value c.requires.0 in
    let gender = adds_both _ _ codes c.gender_cost.ensures.result_value in
    let layout = adds_between (take 2 (drop 4 (places_of c.args.r))) (take 2 (drop 8 (places_of c.args.r))) _ c.layout_cost.ensures.result_value c.dp_cost.ensures.result_value in
    let second = adds_both _ _ (adds_both _ _ gender layout) c.second_cost.ensures.result_value in
    adds_both _ _ second c.orientation_cost.ensures.result_value
