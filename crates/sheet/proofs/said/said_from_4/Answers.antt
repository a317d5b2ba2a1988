-- The bits of a few places. Assumes nothing.
use Rattle.sheet.proofs.Bits.{bits4}
use native.Mathlib.Omega.{arith}
use Rattle.places.specs.Places.{places_of}
use Rattle.sheet.specs.Sheet.{said_of}
use Rattle.sheet.proofs.said.said_from_4.Goals as goal

pub returns : goal.returns
unfolding said_of places_of
returns c = (
  bits4 (rw (c.from.ensures, c.get_screen_layout_ui_smallest_width-layout.ensures) at c.kind_bit-a.ensures.0)
      (rw c.get_screen_layout_ui_smallest_width-layout.ensures at c.some_bit-b.ensures.0)
      (rw c.get_screen_width_height_dp-dp.ensures at c.some_bit-c.ensures.0)
      (rw c.get_screen_width_height_dp-dp.ensures at c.some_bit-d.ensures.0),
  omega arith,
)
