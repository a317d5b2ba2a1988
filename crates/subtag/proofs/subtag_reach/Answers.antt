-- The trimmed source, replaced, is the subtag. Assumes nothing.
use Rattle.subtag.proofs.Strip.{subtag_is}
use Rattle.subtag.proofs.subtag_reach.Goals as goal

pub returns : goal.returns
returns c = rw (subtag_is c.args.src.now, ← c.trim-n.ensures.1) c.replaced_reach.ensures
