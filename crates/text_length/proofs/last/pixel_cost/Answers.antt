-- A word that is 0 says nothing; else both sides. Assumes nothing.
use Prim.Native.Nat.{◌/◌, ◌%◌}
use mathlib.Core.List.{◌++◌}
use native.Mathlib.Omega.{arith}
use lib.ListN.{length-append}
use Rattle.buffer.specs.Ascii.{ascii}
use Rattle.buffer.specs.Decimal.{decimal}
use Rattle.places.specs.Say.{say, say_all}
use Rattle.places.specs.Places.{pixel_place, places_of}
use Rattle.places.proofs.Laws.{some_said}
use Rattle.text_length.proofs.Total.{said_adds}
use Rattle.text_length.proofs.last.pixel_cost.Goals as goal

pub returns-then-r-eq0-clause-result_value : goal.returns-then-r-eq0-clause-result_value
unfolding places_of say_all say
returns-then-r-eq0-clause-result_value c = rw c.if-r-eq0.true

pub returns-clause-result_value : goal.returns-clause-result_value
unfolding places_of
returns-clause-result_value c = let width = decimal (c.args.r.screen_size % 65536) in
    let height = decimal (c.args.r.screen_size / 65536) in
    let wide = rw c.get_screen_width_height-sides.ensures at c.digits.ensures.value in
    let high = rw c.get_screen_width_height-sides.ensures at c.digits-2.ensures.value in said_adds (pixel_place c.args.r) (some_said _ c.if-r-eq0.false) (omega (arith, wide, high, length-append (width ++ ascii "x") height, length-append width (ascii "x")))

pub returns-clause-upper_bound : goal.returns-clause-upper_bound
unfolding places_of
returns-clause-upper_bound c = let width = decimal (c.args.r.screen_size % 65536) in
    let height = decimal (c.args.r.screen_size / 65536) in
    let wide = rw c.get_screen_width_height-sides.ensures at c.digits.ensures.value in
    let high = rw c.get_screen_width_height-sides.ensures at c.digits-2.ensures.value in omega (arith, c.digits.ensures.upper_bound, c.digits-2.ensures.upper_bound)
