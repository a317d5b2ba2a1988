-- A word that is 0 says nothing; else the kinds that its numbers give, and the smallest width. Assumes nothing.
use Prim.Native.Nat.{◌/◌}
use native.Mathlib.Omega.{arith}
use Rattle.places.specs.Say.{say, say_all}
use Rattle.places.specs.Places.{places_of}
use Rattle.buffer.specs.Ascii.{ascii}
use Rattle.text_length.proofs.Total.{adds_both, dp_adds}
use Rattle.text_length.proofs.first.layout_cost.Goals as goal

pub returns-then-r-eq0-clause-result_value : goal.returns-then-r-eq0-clause-result_value
unfolding places_of say_all say
returns-then-r-eq0-clause-result_value c = rw c.if-r-eq0.true

pub returns-clause-result_value : goal.returns-clause-result_value
unfolding places_of
returns-clause-result_value c = let width = dp_adds (ascii "sw") (c.args.r.screen_config / 65536) (rw c.get_screen_layout_ui_smallest_width-layout.ensures at c.number_cost.ensures.value) in adds_both _ _ (adds_both _ _ (adds_both _ _ (rw (c.from-direction.ensures, c.get_screen_layout_ui_smallest_width-layout.ensures) at c.kind_cost.ensures.result_value) width) (rw (c.from-size.ensures, c.get_screen_layout_ui_smallest_width-layout.ensures) at c.kind_cost-2.ensures.result_value)) (rw (c.from-long.ensures, c.get_screen_layout_ui_smallest_width-layout.ensures) at c.kind_cost-3.ensures.result_value)

pub returns-clause-upper_bound : goal.returns-clause-upper_bound
unfolding places_of
returns-clause-upper_bound c = let width = dp_adds (ascii "sw") (c.args.r.screen_config / 65536) (rw c.get_screen_layout_ui_smallest_width-layout.ensures at c.number_cost.ensures.value) in omega (arith, c.kind_cost.ensures.upper_bound, c.number_cost.ensures.upper_bound, c.kind_cost-2.ensures.upper_bound, c.kind_cost-3.ensures.upper_bound)
