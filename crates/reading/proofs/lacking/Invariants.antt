-- The loop passes the rows that aren't cut, so it stops at the least that is. Assumes nothing.
use Rattle.laws.proofs.Least.{NoneBelow}
use Rattle.reading.specs.Cut.{cut_at}
use Rattle.reading.proofs.lacking.Given as goal

abbrev pub invariant-loop-row : goal.invariant-loop-row
invariant-loop-row l = NoneBelow (cut_at l.n l.size) l.row
