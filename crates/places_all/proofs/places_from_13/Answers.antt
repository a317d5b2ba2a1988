-- The places in a row. Assumes nothing.
use Rattle.places.proofs.Laws.{says_more}
use Rattle.places.specs.Places.{places_of}
use Rattle.places_all.proofs.places_from_13.Goals as goal

pub returns : goal.returns
unfolding places_of
returns c = says_more (rw c.get_orientation_touchscreen_density-screen.ensures at (rw c.from.ensures at c.kind_place-a.ensures))
    (says_more (rw c.get_screen_layout_ui_smallest_width-layout.ensures at (rw c.from-2.ensures at c.kind_place-b.ensures)) (rw c.get_screen_layout_ui_smallest_width-layout.ensures at (rw c.from-3.ensures at c.kind_place.ensures)))
