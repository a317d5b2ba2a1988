-- The bits of a few places. Assumes nothing.
use Rattle.sheet.proofs.Bits.{bits5}
use native.Mathlib.Omega.{arith}
use Rattle.places.specs.Places.{places_of}
use Rattle.sheet.specs.Sheet.{said_of}
use Rattle.sheet.proofs.said.said_from_13.Goals as goal

pub returns : goal.returns
unfolding said_of places_of
returns c = (
  bits5 (rw (c.from.ensures, c.get_orientation_touchscreen_density-screen.ensures) at c.kind_bit-a.ensures.0)
      (rw (c.from-2.ensures, c.get_screen_layout_ui_smallest_width-layout.ensures) at c.kind_bit-b.ensures.0)
      (rw (c.from-3.ensures, c.get_screen_layout_ui_smallest_width-layout.ensures) at c.kind_bit-c.ensures.0)
      (rw (c.from-4.ensures, c.get_orientation_touchscreen_density-screen.ensures) at c.kind_bit-d.ensures.0)
      (rw (c.from-5.ensures, c.get_orientation_touchscreen_density-screen.ensures) at c.kind_bit-e.ensures.0),
  omega arith,
)
