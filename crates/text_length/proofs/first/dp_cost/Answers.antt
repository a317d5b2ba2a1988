-- A word that is 0 says nothing; else both numbers. Assumes nothing.
use Prim.Native.Nat.{◌/◌, ◌%◌}
use native.Mathlib.Omega.{arith}
use Rattle.places.specs.Say.{say, say_all}
use Rattle.places.specs.Places.{places_of}
use Rattle.buffer.specs.Ascii.{ascii}
use Rattle.text_length.proofs.Total.{adds_both, dp_adds}
use Rattle.text_length.proofs.first.dp_cost.Goals as goal

pub returns-then-r-eq0-clause-result_value : goal.returns-then-r-eq0-clause-result_value
unfolding places_of say_all say
returns-then-r-eq0-clause-result_value c = rw c.if-r-eq0.true

pub returns-clause-result_value : goal.returns-clause-result_value
unfolding places_of
returns-clause-result_value c = adds_both _ _ (dp_adds (ascii "w") (c.args.r.screen_size_dp % 65536) (rw c.get_screen_width_height_dp-dp.ensures at c.number_cost.ensures.value))
    (dp_adds (ascii "h") (c.args.r.screen_size_dp / 65536) (rw c.get_screen_width_height_dp-dp.ensures at c.number_cost-2.ensures.value))

pub returns-clause-upper_bound : goal.returns-clause-upper_bound
unfolding places_of
returns-clause-upper_bound c = omega (arith, c.number_cost.ensures.upper_bound, c.number_cost-2.ensures.upper_bound)
