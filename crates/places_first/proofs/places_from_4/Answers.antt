-- The places in a row. Assumes nothing.
use Rattle.places.proofs.Laws.{says_more}
use Rattle.places.specs.Places.{places_of}
use Rattle.places_first.proofs.places_from_4.Goals as goal

pub returns : goal.returns
unfolding places_of
returns c = says_more (rw c.get_screen_layout_ui_smallest_width-layout.ensures at (rw c.from.ensures at c.kind_place-a.ensures))
    (says_more (rw c.get_screen_layout_ui_smallest_width-layout.ensures at c.dp_place-b.ensures)
    (says_more (rw c.get_screen_width_height_dp-dp.ensures at c.dp_place-c.ensures) (rw c.get_screen_width_height_dp-dp.ensures at c.dp_place.ensures)))
