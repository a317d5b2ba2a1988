-- A kind is put where it is said. Assumes nothing.
use mathlib.Core.Path.{sym, ◌∙◌}
use Rattle.places.proofs.Laws.{dashed_said, place_silent}
use Rattle.places.proofs.kind_place.Goals as goal

pub returns-then-is_said : goal.returns-then-is_said
returns-then-is_said g c = dashed_said (sym c.is_said.ensures ∙ c.if-is_said.true) c.say_kind.ensures

pub returns-else-is_said : goal.returns-else-is_said
returns-else-is_said g c = place_silent _ (sym c.is_said.ensures ∙ c.if-is_said.false)
