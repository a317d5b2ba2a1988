-- The text is put where it fits, else the call is refused. Assumes nothing.
use mathlib.Core.Path.{sym, ◌∙◌}
use borrow.Author.Tests.{leb-true, leb-false}
use Rattle.subtag.proofs.Copying.{copy_short, copy_written}
use Rattle.text.proofs.as_string.Goals as goal

pub returns-then-not-fits : goal.returns-then-not-fits
returns-then-not-fits c = copy_short _ _ _ (leb-false _ _ (sym c.fits.ensures ∙ c.if-not-fits.true))

pub returns : goal.returns
returns c = rw c.from-counted.ensures (copy_written (leb-true _ _ (sym c.fits.ensures ∙ c.if-not-fits.false)) c.put_text.ensures)
