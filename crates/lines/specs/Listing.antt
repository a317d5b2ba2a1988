-- 01, "The listing": what it says that the calls give the whole listing, a line at a time. Assumes nothing.
use Rattle.std.specs.Prelude.{ℕ, ◌≤◌, ◌≡◌, true, List, [], ◌∷◌, length}
use Rattle.buffer.specs.Written.{Outcome, wrote}
use Rattle.record.specs.Ages.{is_age}
use Rattle.record.specs.Table.{Bytes}
use Rattle.record_line.specs.Ended.{Ended}
use Rattle.lines.specs.declared.Cursor.{Cursor}
use Rattle.lines.specs.Lines.{calls_of, cursor_of, listing_of}

-- lent buffers with room for any line
abbrev pub Roomy : List (List ℕ) → Type 0
Roomy [] = Unit {0}
Roomy (old ∷ olds) = (1069 ≤ length old) × Roomy olds

-- what writing lines into buffers comes to, in order
abbrev pub each_wrote : List (List ℕ) → List (List ℕ) → List Outcome
each_wrote [] olds = []
each_wrote (w ∷ ws) [] = []
each_wrote (w ∷ ws) (old ∷ olds) = wrote w old ∷ each_wrote ws olds

-- at most 65,536 bytes, one of the twelve ages, and as many lent buffers of 1,069 bytes or more as the listing has lines: the
-- calls from the start on write its lines, in order, and lead to the end
abbrev pub WholeListing : Type 0
WholeListing =
    (a : ℕ) (s : List ℕ) → is_age a ≡ true → length s ≤ 65536 → Bytes s → (olds : List (List ℕ)) → Roomy olds → length olds ≡ length (listing_of a s)
    → (calls_of a s Cursor.Start olds ≡ each_wrote (listing_of a s) olds) × (cursor_of a s Cursor.Start olds ≡ Cursor.End)

-- each line of some is ended by one newline and holds no other
abbrev pub EachEnded : List (List ℕ) → Type 0
EachEnded [] = Unit {0}
EachEnded (w ∷ ws) = Ended w × EachEnded ws
