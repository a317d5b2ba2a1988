-- When the marks, and whether a record is held back, are refused, and with which number. Assumes nothing.
use Prim.Native.Nat.{ℕ}
use mathlib.Core.Path.{refl}
use mathlib.Core.List.{List}
use Rattle.answers.proofs.Exactly.{none_left, told_exactly}
use Rattle.buffer.proofs.Exactly.{written_row, refuses_by}
use Rattle.reading.proofs.Exactly.{whole_row, age_row}
use Rattle.mark.specs.Word.{letters_of}
use Rattle.marking.specs.Marks.{letters_in, marks_of}
use Rattle.marking.specs.Demand1.{WordRefuses, MarksRefuse, HeldRefuses}

-- `marks_word`: 3, 1, 2 or 8
pub word_exactly : (a : ℕ) (s : List ℕ) → WordRefuses a s
word_exactly a s = told_exactly (age_row a (whole_row s none_left))

-- `marks`, of fourteen letters: 3, 1, 2 or 8, 5
pub marks_exactly : (a : ℕ) (s old : List ℕ) → MarksRefuse a s old
unfolding letters_in letters_of
marks_exactly a s old = refuses_by refl (age_row a (whole_row s (written_row (marks_of a s) old)))

-- `held_back`: 3, 1, 2 or 8
pub held_refuses : (a : ℕ) (s : List ℕ) → HeldRefuses a s
held_refuses a s = told_exactly (age_row a (whole_row s none_left))
