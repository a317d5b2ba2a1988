-- Each way out gives what 01 says of the byte. Assumes nothing.
use borrow.Author.Rules.{rules}
use Rattle.record_line.proofs.Escapes.{below, above, between}
use Rattle.record_line.proofs.escaping.is_visible.Goals as goal

pub returns-then-b-lt33 : goal.returns-then-b-lt33
returns-then-b-lt33 c = below _ (search rules)

pub returns-then-b-gt126 : goal.returns-then-b-gt126
returns-then-b-gt126 c = above _ (search rules) (search rules)

pub returns : goal.returns
returns c = between _ (search rules) (search rules)
