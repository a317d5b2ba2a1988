-- `first` judges by the row of the first byte. Assumes nothing.
use Prim.Native.Nat.{ℕ, ◌≤◌, ◌<◌, ◌+◌}
use mathlib.Core.Path.{◌≡◌, refl}
use mathlib.Core.List.{List, [], ◌∷◌}
use mathlib.Core.Option.{Option, none, some}
use native.Mathlib.Omega.{arith}
use borrow.Author.Rules.{rules}
use lib.Dec.{T}
use lib.ListN.{get_or}
use Rattle.subtag.specs.declared.utf8.Front.{Front}
use Rattle.subtag.specs.Utf8.{judge, front_of}
use Rattle.subtag.proofs.Rows.{rows_from, row_at}
use Rattle.subtag.proofs.utf8.first.Goals as goal

-- where the n bytes from lo on have the row, it judges a text that begins with one of them
by_row : (s : List ℕ) (f : Front) (lo n : ℕ) (row : Option (List (ℕ × ℕ))) → T (rows_from lo n row)
    → lo ≤ get_or s 0 0 → get_or s 0 0 < lo + n → f ≡ judge row s → f ≡ front_of s
unfolding front_of
by_row s f lo n row t l h e = rw (row_at lo n row t (get_or s 0 0) l h) e

pub returns-then-b-le127 : goal.returns-then-b-le127
returns-then-b-le127 c = by_row _ _ 0x00 0x80 (some []) tt (search rules) (search rules) refl

pub returns-then-b-lt194 : goal.returns-then-b-lt194
returns-then-b-lt194 c = by_row _ _ 0x80 0x42 none tt (search rules) (search rules) refl

pub returns-then-b-le223 : goal.returns-then-b-le223
returns-then-b-le223 c = by_row _ _ 0xC2 0x1E (some ((0x80, 0xBF) ∷ [])) tt (search rules) (search rules) c.front_of_two.ensures

pub returns-then-b-le224 : goal.returns-then-b-le224
returns-then-b-le224 c = by_row _ _ 0xE0 1 (some ((0xA0, 0xBF) ∷ (0x80, 0xBF) ∷ [])) tt (search rules) (search rules) c.front_of_three.ensures

pub returns-then-b-le236 : goal.returns-then-b-le236
returns-then-b-le236 c = by_row _ _ 0xE1 12 (some ((0x80, 0xBF) ∷ (0x80, 0xBF) ∷ [])) tt (search rules) (search rules) c.front_of_three-then-b-le236.ensures

pub returns-then-b-le237 : goal.returns-then-b-le237
returns-then-b-le237 c = by_row _ _ 0xED 1 (some ((0x80, 0x9F) ∷ (0x80, 0xBF) ∷ [])) tt (search rules) (search rules) c.front_of_three-then-b-le237.ensures

pub returns-then-b-le239 : goal.returns-then-b-le239
returns-then-b-le239 c = by_row _ _ 0xEE 2 (some ((0x80, 0xBF) ∷ (0x80, 0xBF) ∷ [])) tt (search rules) (search rules) c.front_of_three-then-b-le239.ensures

pub returns-then-b-le240 : goal.returns-then-b-le240
returns-then-b-le240 c = by_row _ _ 0xF0 1 (some ((0x90, 0xBF) ∷ (0x80, 0xBF) ∷ (0x80, 0xBF) ∷ [])) tt (search rules) (search rules) c.front_of_four.ensures

pub returns-then-b-le243 : goal.returns-then-b-le243
returns-then-b-le243 c = by_row _ _ 0xF1 3 (some ((0x80, 0xBF) ∷ (0x80, 0xBF) ∷ (0x80, 0xBF) ∷ [])) tt (search rules) (search rules) c.front_of_four-then-b-le243.ensures

pub returns-then-b-le244 : goal.returns-then-b-le244
returns-then-b-le244 c = by_row _ _ 0xF4 1 (some ((0x80, 0x8F) ∷ (0x80, 0xBF) ∷ (0x80, 0xBF) ∷ [])) tt (search rules) (search rules) c.front_of_four-then-b-le244.ensures

pub returns : goal.returns
returns c = by_row _ _ 0xF5 11 none tt (search rules) (omega (arith, c.shared_slice_known-2-1.given 0)) refl
