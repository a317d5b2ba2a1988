-- When parsing succeeds and when it is refused, and with which number. Assumes nothing.
use Prim.Native.Nat.{ℕ, ◌≤◌}
use mathlib.Core.Path.{◌≡◌, refl, ap}
use mathlib.Core.Bool.{true}
use mathlib.Core.List.{List, ◌∷◌}
use mathlib.Core.Logic.{◌↔◌}
use native.Mathlib.Omega.{arith}
use borrow.Author.Tests.{ltb-false}
use lib.ListN.{length}
use Rattle.answers.specs.declared.Refusal.{Refusal}
use Rattle.answers.specs.declared.Told.{Told}
use Rattle.answers.specs.Demand1.{Condition, Exactly}
use Rattle.answers.proofs.Exactly.{Goes, none_left, one_more, one_unless, row_exactly, told_exactly}
use Rattle.record.specs.declared.ResTableConfig.{ResTableConfig}
use Rattle.record.specs.Ages.{is_age}
use Rattle.reading.specs.Reading.{ParseOutcome, parse_of, parse_aged, parse_took, parse_refused, take_of, size_of, taken, if_whole, if_age}
use Rattle.reading.specs.Demand1.{fewer_than16, fewer_than_size, not_an_age, TakeRefuses, ParseRefuses, AgedRefuses}
use Rattle.reading.proofs.Whole.{whole_map, whole_took, age_known}

-- 1 and 2 before a row, and 3
module _ {A : Type 0} {row : List Condition} {refuse : Refusal → A} {give o : A} where
  pub whole_row : (s : List ℕ) → Goes row refuse give o → Goes (fewer_than16 s ∷ fewer_than_size s ∷ row) refuse give (if_whole s refuse o)
  unfolding if_whole
  whole_row s g = one_more (fewer_than16 s) (one_more (fewer_than_size s) g)

  pub age_row : (a : ℕ) → Goes row refuse give o → Goes (not_an_age a ∷ row) refuse give (if_age a refuse o)
  unfolding if_age
  age_row a g = one_unless (is_age a) Refusal.NotAnAge g

-- a call that gives a record
pub gives_exactly : {row : List Condition} {n : ℕ} {r : ResTableConfig} {o : ParseOutcome} → Goes row parse_refused (parse_took n r) o → Exactly row o.tells
gives_exactly {n = n} {r = r} g = row_exactly (λ (o : ParseOutcome). o.tells) parse_refused (parse_took n r) (λ why. refl) refl g

-- `take`: 1, 2 or 8
pub take_exactly : (s : List ℕ) → TakeRefuses s
take_exactly s = told_exactly (whole_row s none_left)

-- `parse`: 1, 2 or 8
pub parse_exactly : (s : List ℕ) → ParseRefuses s
parse_exactly s = gives_exactly (whole_row s none_left)

-- `parse_aged`: 3, 1, 2 or 8
pub aged_exactly : (a : ℕ) (s : List ℕ) → AgedRefuses a s
aged_exactly a s = gives_exactly (age_row a (whole_row s none_left))

-- parsing succeeds exactly when T bytes are there
pub success_exactly : (s : List ℕ) → ((take_of s).number ≡ 0) ↔ (taken s ≤ length s)
success_exactly s = (
  (λ e. let n = (take_exactly s).succeeds.0 e in omega (arith, ltb-false (length s) 16 n.0, ltb-false (length s) (size_of s) n.1.0)),
  (λ h. ap (λ (t : Told). t.number) (whole_took s _ _ h)),
)

-- `parse` tells what `take` tells
pub parse_tells : (s : List ℕ) → (parse_of s).tells ≡ take_of s
parse_tells s = whole_map (λ (o : ParseOutcome). o.tells) s _ _

-- and so does `parse_aged` at an age
pub aged_tells : (a : ℕ) (s : List ℕ) → true ≡ is_age a → (parse_aged a s).tells ≡ take_of s
aged_tells a s h = rw (age_known a _ _ h) (whole_map (λ (o : ParseOutcome). o.tells) s _ _)
