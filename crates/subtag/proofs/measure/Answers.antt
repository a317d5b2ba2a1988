-- `measure` tells a front's length before and after. Assumes nothing.
use Rattle.subtag.proofs.Room.{measured_well}
use Rattle.subtag.proofs.measure.Goals as goal

pub returns-in-WellFormed : goal.returns-in-WellFormed
returns-in-WellFormed c = measured_well _ c.first.ensures c.in-WellFormed.is c.requires
