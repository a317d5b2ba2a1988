-- The entries of the first held numbers are put. Assumes nothing.
use lib.ListN.{take}
use Rattle.buffer.specs.Put.{Put}
use Rattle.index.specs.Steps.{entries_held}
use Rattle.index.proofs.put_entries.Given as goal

abbrev pub invariant-loop-w : goal.invariant-loop-w
invariant-loop-w l = Put l.initial.out 0 (entries_held l.bytes l.counted (take l.w-index (take l.m l.held))) l.out l.o
