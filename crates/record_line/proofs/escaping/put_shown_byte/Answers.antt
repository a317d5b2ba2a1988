-- A byte as it is, or its sign and two digits in a row. Assumes nothing.
use mathlib.Core.Path.{sym, ◌∙◌}
use borrow.Author.Rules.{rules}
use Rattle.buffer.proofs.Putting.{put_put}
use Rattle.record_line.proofs.Escapes.{escaped_same, escaped_hex}
use Rattle.record_line.proofs.escaping.put_shown_byte.Goals as goal

pub returns-then-is_visible : goal.returns-then-is_visible
returns-then-is_visible c = rw (escaped_same _ (sym c.if-is_visible.true ∙ c.is_visible.ensures)) c.put_byte.ensures

pub returns : goal.returns
returns c = rw (escaped_hex _ (sym c.if-is_visible.false ∙ c.is_visible.ensures))
    (put_put (put_put c.put_byte-sign.ensures c.put_byte-first.ensures) c.put_byte-2.ensures)
