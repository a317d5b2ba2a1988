-- The first three fields are never absent: every record holds imsi, locale and screen_type. Assumes nothing.
use Prim.Native.Nat.{ℕ, ◌<◌}
use mathlib.Core.Path.{◌≡◌}
use mathlib.Core.List.{List}
use native.Mathlib.Omega.{arith}
use borrow.Author.Tests.{lt-ltb}
use lib.Dec.{ltb}
use Rattle.mark.specs.declared.Mark.{Mark}
use Rattle.mark.proofs.Words.{chosen_other}
use Rattle.record.specs.Table.{part, all_zero, start_of, end_of, width_of}
use Rattle.reading.specs.Reading.{reads}
use Rattle.marking.specs.Marks.{mark_between, mark_of}
use Rattle.marking.proofs.Marking.{absent_unread}

pub never_absent : (a : ℕ) (s : List ℕ) (f : ℕ) → f < 4 → mark_of a s f ≡ Mark.Absent → ⊥
unfolding mark_between reads
never_absent a s f h e =
    chosen_other Mark.Absent Mark.Unknown Mark.Blank Mark.Filled (ltb a (end_of f)) (all_zero (part s (start_of f) (width_of f))) tt tt tt (simp (absent_unread s f (omega arith), lt-ltb f 4 h) at e)
