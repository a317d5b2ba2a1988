-- The letters in a row. Assumes nothing.
use mathlib.Core.Path.{refl}
use native.Mathlib.Omega.{arith}
use borrow.Author.Rules.{rules}
use Rattle.buffer.proofs.Putting.{put_nil}
use Rattle.subtag.proofs.Copying.{put_copy, copy_copy}
use Rattle.subtag.proofs.Letters.{copy_is, one_few}
use Rattle.language.proofs.Unpacked.{none_is, two_is, three_is}
use Rattle.language.proofs.put_unpacked.Goals as goal

pub returns-then-a-eq0 : goal.returns-then-a-eq0
returns-then-a-eq0 c = copy_is _ (none_is _ _ _ c.if-a-eq0.true) (record { puts = put_nil; counts = refl })

pub returns-then-a-lt128 : goal.returns-then-a-lt128
returns-then-a-lt128 c = copy_is _ (two_is _ _ _ c.if-a-eq0.false c.if-a-lt128.true) (put_copy c.put_byte-second.ensures c.put_letter.ensures)

pub overflow_add-result : goal.overflow_add-result
overflow_add-result c = omega (arith, one_few _ c.put_letter-first.ensures, one_few _ c.put_letter-second.ensures)

pub overflow_add-result-2 : goal.overflow_add-result-2
overflow_add-result-2 c = omega (arith, one_few _ c.put_letter-first.ensures, one_few _ c.put_letter-second.ensures, one_few _ c.put_letter-third.ensures)

pub returns : goal.returns
returns c = copy_is _ (three_is _ _ _ c.if-a-lt128.false (search rules) c.requires)
    (copy_copy (copy_copy c.put_letter-first.ensures c.put_letter-second.ensures) c.put_letter-third.ensures)
