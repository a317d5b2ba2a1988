-- `trim` stops at the last byte that is no NUL. Assumes nothing.
use Rattle.subtag.specs.Subtag.{drop_nuls}
use lib.ListN.{take}
use mathlib.Core.Path.{◌≡◌}
use Rattle.subtag.proofs.trim.Given as goal

abbrev pub invariant-loop-n : goal.invariant-loop-n
invariant-loop-n l = drop_nuls l.s ≡ drop_nuls (take l.n l.s)
