-- Each of the three cases tells what its byte becomes. Assumes nothing.
use mathlib.Core.Path.{sym, ap}
use native.Mathlib.Omega.{arith}
use borrow.Author.Rules.{rules}
use lib.ListN.{length}
use Rattle.subtag.proofs.Letters.{nul_alone, low_alone, high_alone}
use Rattle.language.proofs.letter_length.Goals as goal

pub returns-then-b-eq0 : goal.returns-then-b-eq0
returns-then-b-eq0 c = (sym (ap length (nul_alone _ c.if-b-eq0.true).0), omega arith)

pub returns-then-b-lt128 : goal.returns-then-b-lt128
returns-then-b-lt128 c = (sym (ap length (low_alone _ (omega arith) c.if-b-lt128.true).0), omega arith)

pub returns-else-b-lt128 : goal.returns-else-b-lt128
returns-else-b-lt128 c = (sym (ap length (high_alone _ (omega arith) (search rules)).0), omega arith)
