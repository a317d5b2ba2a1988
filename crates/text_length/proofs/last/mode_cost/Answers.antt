-- A word that is 0 says nothing; else the kind that its number gives. Assumes nothing.
use native.Mathlib.Omega.{arith}
use Rattle.places.specs.Say.{say, say_all}
use Rattle.places.specs.Places.{places_of}
use Rattle.text_length.proofs.last.mode_cost.Goals as goal

pub returns-then-r-eq0-clause-result_value : goal.returns-then-r-eq0-clause-result_value
unfolding places_of say_all say
returns-then-r-eq0-clause-result_value c = rw c.if-r-eq0.true

pub returns-clause-result_value : goal.returns-clause-result_value
unfolding places_of
returns-clause-result_value c = rw (c.from-mode.ensures, c.get_screen_layout_ui_smallest_width-layout.ensures) at c.kind_cost.ensures.result_value

pub returns-clause-upper_bound : goal.returns-clause-upper_bound
unfolding places_of
returns-clause-upper_bound c = omega (arith, c.kind_cost.ensures.upper_bound)
