-- The first i letters are put, and what is left of the word has the others. Assumes nothing.
use Prim.Native.Nat.{◌/◌, ◌^◌}
use mathlib.Core.Path.{◌≡◌}
use lib.ListN.{take}
use Rattle.buffer.specs.Put.{Put}
use Rattle.mark.specs.Word.{letters_of}
use Rattle.mark.proofs.put_letters.Given as goal

abbrev pub invariant-loop : goal.invariant-loop
invariant-loop l = (l.rest ≡ l.word / 4 ^ l.counter) × Put l.initial.out l.at (take l.counter (letters_of l.word)) l.out l.o
