-- The locale is put where it is said. Assumes nothing.
use mathlib.Core.Path.{refl}
use borrow.Author.Tests.{eq-eqb}
use Rattle.buffer.proofs.Putting.{put_nil}
use Rattle.locale.proofs.put_said.Goals as goal

pub returns-then-r-eq0 : goal.returns-then-r-eq0
returns-then-r-eq0 c = rw (eq-eqb _ _ c.if-r-eq0.true) (record { puts = put_nil; counts = refl })
