-- The invariant: once the digits of what is left are put at the front, all of them are. Assumes nothing.
use Rattle.buffer.specs.Decimal.{decimal}
use Rattle.buffer.specs.Put.{put_at}
use Rattle.buffer.proofs.Backwards.{DigitsLeft}
use Rattle.buffer.proofs.put_decimal.Given as goal

abbrev pub invariant-loop-o : goal.invariant-loop-o
invariant-loop-o l = DigitsLeft l.out l.at l.left l.o (put_at l.initial.out l.at (decimal l.n))
