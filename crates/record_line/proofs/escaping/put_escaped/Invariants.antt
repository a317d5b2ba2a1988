-- The first bytes of the text are put. Assumes nothing.
use lib.ListN.{take}
use Rattle.buffer.specs.Put.{Put}
use Rattle.record_line.specs.RecordLine.{escaped_all}
use Rattle.record_line.proofs.escaping.put_escaped.Given as goal

abbrev pub invariant-loop-b : goal.invariant-loop-b
invariant-loop-b l = Put l.initial.out l.at (escaped_all (take l.b-index l.text)) l.out l.o
