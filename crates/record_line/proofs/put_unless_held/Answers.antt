-- What is put goes by whether the record is held back. Assumes nothing.
use mathlib.Core.Path.{refl}
use Rattle.buffer.proofs.Putting.{put_nil}
use Rattle.record_line.proofs.put_unless_held.Goals as goal

pub returns-then-held : goal.returns-then-held
returns-then-held c = rw c.if-held.true (record { puts = put_nil; counts = refl })
