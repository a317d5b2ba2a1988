-- The bits of a few places. Assumes nothing.
use Rattle.sheet.proofs.Bits.{bits6}
use native.Mathlib.Omega.{arith}
use Rattle.places.specs.Places.{places_of}
use Rattle.sheet.specs.Sheet.{said_of}
use Rattle.sheet.proofs.said.said_from_18.Goals as goal

pub returns : goal.returns
unfolding said_of places_of
returns c = (
  bits6 (rw (c.from.ensures, c.get_keyboard_navigation_input_flags-input.ensures) at c.kind_bit-a.ensures.0)
      (rw (c.from-2.ensures, c.get_keyboard_navigation_input_flags-input.ensures) at c.kind_bit-b.ensures.0)
      (rw (c.from-3.ensures, c.get_keyboard_navigation_input_flags-input.ensures) at c.kind_bit-c.ensures.0)
      (rw (c.from-4.ensures, c.get_keyboard_navigation_input_flags-input.ensures) at c.kind_bit-d.ensures.0)
      c.some_bit-e.ensures.0 c.some_bit-f.ensures.0,
  omega arith,
)
