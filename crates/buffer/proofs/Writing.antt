-- Laws of `written`: when a call writes, when it is refused, and what is put. Assumes nothing.
use Prim.Native.Nat.{ℕ, ◌≤◌, ◌<◌}
use mathlib.Core.Path.{◌≡◌}
use mathlib.Core.List.{List}
use lib.ListN.{length}
use borrow.Author.Tests.{le-leb, lt-leb}
use Rattle.answers.specs.declared.Refusal.{Refusal}
use Rattle.std.specs.Prelude.{Result, Ok, Err}
use Rattle.buffer.specs.Put.{Put}
use Rattle.buffer.specs.Written.{outcome, written, wrote, refused}
use Rattle.buffer.proofs.Putting.{front_is}

-- what fits is written, and what doesn't is refused
pub written_fits : (w old : List ℕ) → length w ≤ length old → written w old ≡ wrote w old
unfolding written
written_fits w old h = rw le-leb

pub written_short : (w old : List ℕ) → length old < length w → written w old ≡ refused Refusal.ShortBuffer old
unfolding written
written_short w old h = rw lt-leb

-- a writer that put w to the front of a buffer that holds it
pub put_written : {old : List ℕ} {w : List ℕ} {new : List ℕ} {r : ℕ}
    → length w ≤ length old → Put old 0 w new r → outcome (Ok (length w)) new ≡ written w old
put_written {old} {w} h p = rw (written_fits w old h, front_is p h)
