-- The parts of the new format add up. Assumes nothing.
use native.Mathlib.Omega.{arith}
use Rattle.locale.proofs.Long.{new_parts}
use Rattle.locale.proofs.new_length.Goals as goal

pub returns : goal.returns
returns c = omega (
  arith,
  new_parts c.args.r,
  c.own_language_length-language.ensures.0,
  c.script_length-script.ensures.0,
  c.own_region_length-region.ensures.0,
  c.begun_length-longer.ensures.0,
  c.begun_length.ensures.0,
)
