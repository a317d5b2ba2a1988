-- The invariant: the first bytes are put. Assumes nothing.
use lib.ListN.{take}
use Rattle.buffer.specs.Put.{Put}
use Rattle.buffer.proofs.put.Given as goal

abbrev pub invariant-loop-b : goal.invariant-loop-b
invariant-loop-b l = Put l.initial.out l.at (take l.b-index l.bytes) l.out l.o
