-- The row of each first byte: one computed test for a range of bytes. Assumes nothing.
use Prim.Native.Nat.{ℕ, ◌+◌, ◌-◌, ◌≤◌, ◌<◌}
use mathlib.Core.Path.{◌≡◌, refl, sym, ap₂, ◌∙◌}
use mathlib.Core.Bool.{Bool, true, false, ◌&&◌, false≢true}
use mathlib.Core.List.{List, [], ◌∷◌}
use mathlib.Core.Option.{Option, none, some}
use native.Mathlib.Omega.{arith}
use lib.Dec.{T, eqb}
use borrow.Author.Tests.{eqb-true}
use Rattle.laws.specs.Below.{each_below}
use Rattle.laws.proofs.Tests.{and_both}
use Rattle.laws.proofs.Below.{in_row}
use Rattle.subtag.specs.Utf8.{table, row_of}

-- what a test's flag was, it is
pub told : {r x t : Bool} → r ≡ x → r ≡ t → x ≡ t
told e q = sym e ∙ q

-- whether two rows are one
abbrev same_ranges : List (ℕ × ℕ) → List (ℕ × ℕ) → Bool
same_ranges [] [] = true
same_ranges [] (q ∷ qs) = false
same_ranges (p ∷ ps) [] = false
same_ranges (p ∷ ps) (q ∷ qs) = eqb p.0 q.0 && (eqb p.1 q.1 && same_ranges ps qs)

abbrev same_row : Option (List (ℕ × ℕ)) → Option (List (ℕ × ℕ)) → Bool
same_row none none = true
same_row none (some qs) = false
same_row (some ps) none = false
same_row (some ps) (some qs) = same_ranges ps qs

ranges_one : (ps qs : List (ℕ × ℕ)) → same_ranges ps qs ≡ true → ps ≡ qs
ranges_one [] [] h = refl
ranges_one [] (q ∷ qs) h = absurd (false≢true h)
ranges_one (p ∷ ps) [] h = absurd (false≢true h)
ranges_one (p ∷ ps) (q ∷ qs) h =
    let a = and_both h in
    let b = and_both a.1 in
    let e : p.0 ≡ q.0 = eqb-true p.0 q.0 a.0 in
    let f : p.1 ≡ q.1 = eqb-true p.1 q.1 b.0 in
    ap₂ (λ (r : ℕ × ℕ) (l : List (ℕ × ℕ)). r ∷ l) (ap₂ (λ (lo hi : ℕ). (lo, hi)) e f) (ranges_one ps qs b.1)

row_one : (p q : Option (List (ℕ × ℕ))) → same_row p q ≡ true → p ≡ q
row_one none none h = refl
row_one none (some qs) h = absurd (false≢true h)
row_one (some ps) none h = absurd (false≢true h)
row_one (some ps) (some qs) h = let e : ps ≡ qs = ranges_one ps qs h in cc

-- each of the n bytes from lo on has the row
abbrev pub rows_from : ℕ → ℕ → Option (List (ℕ × ℕ)) → Bool
rows_from lo n row = each_below n (λ k. same_row (row_of table (lo + k)) row)

pub row_at : (lo n : ℕ) (row : Option (List (ℕ × ℕ))) → T (rows_from lo n row) → (b : ℕ) → lo ≤ b → b < lo + n → row_of table b ≡ row
row_at lo n row h b l m =
    let e : lo + (b - lo) ≡ b = omega arith in
    rw e at (row_one (row_of table (lo + (b - lo))) row (in_row n (λ k. same_row (row_of table (lo + k)) row) h (b - lo) (omega arith)))
