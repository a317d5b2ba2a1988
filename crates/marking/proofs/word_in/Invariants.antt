-- The word has the marks behind field f, and takes that of field f next. Assumes nothing.
use Prim.Native.Nat.{◌-◌}
use mathlib.Core.Path.{◌≡◌}
use lib.ListN.{drop}
use Rattle.mark.specs.Word.{in_one_word}
use Rattle.marking.proofs.Marking.{marks_from}
use Rattle.marking.proofs.word_in.Given as goal

abbrev pub invariant-loop-f : goal.invariant-loop-f
invariant-loop-f l = l.word ≡ in_one_word (drop (l.f - 1) (marks_from l.age l.t l.bytes))
