-- What is put goes by whether the text is held back, and whether it is empty. Assumes nothing.
use borrow.Author.Rules.{rules}
use Rattle.record_line.proofs.Escapes.{shown_none, shown_some}
use Rattle.record_line.proofs.escaping.put_shown_text.Goals as goal

pub returns-then-text-eq0 : goal.returns-then-text-eq0
returns-then-text-eq0 c = rw (c.if-held.false, shown_none _ c.if-text-eq0.true) c.put-then-text-eq0.ensures

pub returns : goal.returns
returns c = rw (c.if-held.false, shown_some _ c.if-text-eq0.false) c.put_escaped.ensures
