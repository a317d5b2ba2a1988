-- Demand 1 of parsing: when it is refused, plain and at an age. Assumes nothing.
use Rattle.std.specs.Prelude.{ℕ, ◌≤◌, ◌<◌, ◌≡◌, not, List, [], ◌∷◌, ◌↔◌, ◌⊎◌, ltb, length}
use Rattle.answers.specs.declared.Refusal.{Refusal}
use Rattle.answers.specs.Demand1.{Condition, Exactly}
use Rattle.answers.specs.Tells.{refusal}
use Rattle.record.specs.Ages.{is_age}
use Rattle.reading.specs.Cut.{lacking, FirstCut, NoneCut}
use Rattle.reading.specs.Reading.{size_of, parse_of, parse_aged, take_of}

-- 1: fewer than 16 bytes
abbrev pub fewer_than16 : List ℕ → Condition
fewer_than16 s = record { holds = ltb (length s) 16; why = Refusal.TooFewBytes }

-- 2 or 8: fewer than size; behind 1 in every row, so 16 or more
abbrev pub fewer_than_size : List ℕ → Condition
fewer_than_size s = record { holds = ltb (length s) (size_of s); why = lacking (length s) (size_of s) }

-- 3: an age that is not among the twelve
abbrev pub not_an_age : ℕ → Condition
not_an_age a = record { holds = not (is_age a); why = Refusal.NotAnAge }

-- `take`: 1, 2 or 8
abbrev pub TakeRefuses : List ℕ → Type 0
TakeRefuses s = Exactly (fewer_than16 s ∷ fewer_than_size s ∷ []) (take_of s)

-- `parse`: 1, 2 or 8
abbrev pub ParseRefuses : List ℕ → Type 0
ParseRefuses s = Exactly (fewer_than16 s ∷ fewer_than_size s ∷ []) (parse_of s).tells

-- `parse_aged`: 3, 1, 2 or 8
abbrev pub AgedRefuses : ℕ → List ℕ → Type 0
AgedRefuses a s = Exactly (not_an_age a ∷ fewer_than16 s ∷ fewer_than_size s ∷ []) (parse_aged a s).tells

-- 1 comes exactly when there are fewer than 16 bytes
abbrev pub TooFew : List ℕ → Type 0
TooFew s = (take_of s ≡ refusal Refusal.TooFewBytes) ↔ (length s < 16)

-- 2 comes with row f exactly when there are 16 bytes or more and field f is the first that is cut
abbrev pub CutWithRow : List ℕ → ℕ → Type 0
CutWithRow s f = (take_of s ≡ refusal (Refusal.FieldCut f)) ↔ ((16 ≤ length s) × FirstCut (length s) (size_of s) f)

-- 8 comes exactly when there are 16 bytes or more, fewer than size, and no field is cut
abbrev pub CutBehind : List ℕ → Type 0
CutBehind s = (take_of s ≡ refusal Refusal.UndecodedCut) ↔ ((16 ≤ length s) × (length s < size_of s) × NoneCut (length s) (size_of s))

-- one of both comes exactly when there are 16 bytes or more, fewer than size, as 2 alone did before 02
abbrev pub CutEither : List ℕ → Type 0
CutEither s = (((take_of s).number ≡ 2) ⊎ ((take_of s).number ≡ 8)) ↔ ((16 ≤ length s) × (length s < size_of s))

-- a row that comes is from 4 to 14
abbrev pub RowsFrom4 : List ℕ → ℕ → Type 0
RowsFrom4 s f = take_of s ≡ refusal (Refusal.FieldCut f) → (4 ≤ f) × (f ≤ 14)
