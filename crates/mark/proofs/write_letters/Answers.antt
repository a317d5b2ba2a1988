-- 12, then 5, then all fourteen letters. Assumes nothing.
use mathlib.Core.Path.{sym, ◌∙◌}
use native.Mathlib.Omega.{arith}
use borrow.Author.Rules.{rules}
use Rattle.buffer.proofs.Writing.{put_written, written_short}
use Rattle.mark.specs.Word.{letters_of}
use Rattle.mark.proofs.Letters.{letters_length}
use Rattle.mark.proofs.Exactly.{letters_given}
use Rattle.mark.proofs.write_letters.Goals as goal

pub returns-then-out-lt14 : goal.returns-then-out-lt14
returns-then-out-lt14 c = sym (letters_given c.args.word _ (omega (arith, c.if-word-ge-ABOVE.false)) ∙ written_short _ _ (omega (arith, letters_length c.args.word, c.if-out-lt14.true)))

pub returns : goal.returns
unfolding letters_of
returns c = put_written (search rules) c.put_letters.ensures ∙ sym (letters_given c.args.word _ (omega (arith, c.if-word-ge-ABOVE.false)))
