-- Each of the three cases puts what its byte becomes. Assumes nothing.
use mathlib.Core.Path.{refl}
use native.Mathlib.Omega.{arith}
use borrow.Author.Rules.{rules}
use Rattle.buffer.proofs.Putting.{put_nil}
use Rattle.subtag.proofs.Letters.{copy_is, nul_alone, low_alone, high_alone}
use Rattle.language.proofs.put_letter.Goals as goal

pub returns-then-b-eq0 : goal.returns-then-b-eq0
returns-then-b-eq0 c = copy_is _ (nul_alone _ c.if-b-eq0.true) (record { puts = put_nil; counts = refl })

pub returns-then-b-lt128 : goal.returns-then-b-lt128
returns-then-b-lt128 c = copy_is _ (low_alone _ (omega arith) c.if-b-lt128.true) (record { puts = c.put_byte.ensures; counts = refl })

pub returns : goal.returns
returns c = copy_is _ (high_alone _ (omega arith) (search rules)) (record { puts = c.put.ensures; counts = refl })
