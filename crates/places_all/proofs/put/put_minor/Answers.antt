-- A minor version that is not 0 is put. Assumes nothing.
use borrow.Author.Tests.{eq-eqb, ne_eqb}
use Rattle.buffer.proofs.Putting.{put_nil}
use Rattle.places_all.proofs.put.put_minor.Goals as goal

pub returns-then-minor-eq0 : goal.returns-then-minor-eq0
returns-then-minor-eq0 c = rw (eq-eqb _ _ c.if-minor-eq0.true) put_nil

pub returns : goal.returns
returns c = rw (ne_eqb _ _ c.if-minor-eq0.false) c.put_label.ensures
