-- At 64 all is known. Assumes nothing.
use Rattle.reading.proofs.Limits.{aged_plain}
use Rattle.reading.proofs.parse.Goals as goal

pub returns : goal.returns
returns c = rw (← aged_plain _) c.parse_to.ensures
