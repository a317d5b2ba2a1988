-- `put_subtag` puts what is left without the NULs at the end. Assumes nothing.
use Rattle.subtag.proofs.Counts.{count_trimmed}
use Rattle.subtag.proofs.Strip.{subtag_is}
use Rattle.subtag.proofs.put_subtag.Goals as goal

pub returns : goal.returns
returns c = rw (subtag_is _, count_trimmed _, ← c.trim-n.ensures.1) c.put_replaced.ensures
