-- 01, "Numbers given back", with 02's additions. Assumes nothing.
use Rattle.std.specs.Prelude.{ℕ}
use Rattle.answers.specs.declared.Refusal.{Refusal}

-- the number of each refusal in 01's table, and 02's 8 to 12
abbrev pub number_of : Refusal → ℕ
number_of Refusal.TooFewBytes = 1
number_of (Refusal.FieldCut row) = 2
number_of Refusal.NotAnAge = 3
number_of Refusal.HeldBack = 4
number_of Refusal.ShortBuffer = 5
number_of Refusal.UnreadField = 6
number_of Refusal.TooMuchInput = 7
number_of Refusal.UndecodedCut = 8
number_of Refusal.WrongType = 9
number_of Refusal.WrongSizes = 10
number_of (Refusal.NotAName at) = 11
number_of Refusal.TopBits = 12

-- the number that a refusal carries beside its own: a cut field's row, the offset of a name's part, and 0 where it carries none
abbrev pub carried_by : Refusal → ℕ
carried_by Refusal.TooFewBytes = 0
carried_by (Refusal.FieldCut row) = row
carried_by Refusal.NotAnAge = 0
carried_by Refusal.HeldBack = 0
carried_by Refusal.ShortBuffer = 0
carried_by Refusal.UnreadField = 0
carried_by Refusal.TooMuchInput = 0
carried_by Refusal.UndecodedCut = 0
carried_by Refusal.WrongType = 0
carried_by Refusal.WrongSizes = 0
carried_by (Refusal.NotAName at) = at
carried_by Refusal.TopBits = 0
