-- The first i letters are put, and what is left of the word has the others. Assumes nothing.
use mathlib.Core.Path.{sym}
use native.Mathlib.Nat.{div-one}
use native.Mathlib.Omega.{arith}
use Rattle.buffer.proofs.Putting.{put_nil, put_all}
use Rattle.mark.proofs.Letters.{letter_here, letter_next, letters_length, next_rest}
use Rattle.mark.proofs.put_letters.Goals as goal

pub loop-init : goal.loop-init
loop-init c = (sym (div-one _), put_nil)

pub loop-preserved : goal.loop-preserved
loop-preserved c = (
  next_rest c.args.word c.loop.counter c.loop.rest c.loop.invariant.0,
  letter_next c.args.word c.loop.counter _ (omega arith) (letter_here c.args.word c.loop.counter c.loop.rest c.loop.invariant.0) c.loop.invariant.1 c.put_byte-o.ensures,
)

pub returns : goal.returns
returns c = put_all _ c.loop.counter (omega (arith, letters_length c.args.word)) c.loop.invariant.1
