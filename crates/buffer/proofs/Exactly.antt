-- A call that writes and goes by a row of conditions: each number exactly under its condition, and a refused call changes nothing
-- lent to it. Assumes nothing.
use Prim.Native.Nat.{ℕ, ◌<◌}
use mathlib.Core.Path.{◌≡◌, refl}
use mathlib.Core.Bool.{cond}
use mathlib.Core.List.{List, [], ◌∷◌}
use native.Mathlib.Omega.{arith}
use native.Mathlib.Decide.{dec_le}
use lib.Dec.{leb, ltb}
use lib.ListN.{length}
use borrow.Author.Tests.{le-leb, lt-leb, le-ltb, lt-ltb}
use Rattle.answers.specs.Demand1.{Condition}
use Rattle.answers.proofs.Exactly.{Goes, row_exactly, row_stays}
use Rattle.buffer.specs.Written.{Outcome, written, wrote, refused}
use Rattle.buffer.specs.Demand1.{shorter_than, Refuses, WriteRefuses}

-- of every call that writes: o is its outcome, and give what it comes to where no condition holds
pub refuses_by : {row : List Condition} {old : List ℕ} {give o : Outcome} → give.tells.number ≡ 0 → Goes row (λ why. refused why old) give o
    → Refuses row old o
refuses_by {old = old} {give = give} good g =
    record {
      exactly = row_exactly (λ (z : Outcome). z.tells) (λ why. refused why old) give (λ why. refl) good g;
      untouched =
          row_stays (λ (z : Outcome). z.tells) (λ why. refused why old) give (λ why. refl) good g
          (λ z. (z.tells.amount ≡ 0) × (z.leaves ≡ old)) (λ why. (refl, refl));
    }

-- room for m bytes in n, by the other test
pub room : {A : Type 0} (m n : ℕ) (x y : A) → cond (leb m n) x y ≡ cond (ltb n m) y x
room m n x y =
    elim (dec_le m n) [
      | yes h ↦ rw (le-leb m n h, le-ltb n m h)
      | no h ↦ let l : n < m = omega arith in rw (lt-leb m n l, lt-ltb n m l)
    ]

-- writing w goes by 5
pub written_row : (w old : List ℕ) → Goes (shorter_than (length w) old ∷ []) (λ why. refused why old) (wrote w old) (written w old)
unfolding written
written_row w old = record { by = room (length w) (length old) _ _ }

-- every call that comes to `written w old`: 5
pub write_exactly : (w old : List ℕ) → WriteRefuses w old
write_exactly w old = refuses_by refl (written_row w old)
