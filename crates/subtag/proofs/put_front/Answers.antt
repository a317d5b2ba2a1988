-- `put_front` puts what the front becomes. Assumes nothing.
use mathlib.Core.Path.{sym}
use lib.Seq.{length-take-le}
use Rattle.subtag.proofs.Laws.{well_in}
use Rattle.subtag.proofs.put_front.Goals as goal

pub slice_bounds-put-end : goal.slice_bounds-put-end
slice_bounds-put-end c = sym (length-take-le _ _ (well_in _ c.first.ensures c.in-WellFormed.is c.requires))
