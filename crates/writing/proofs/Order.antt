-- The table's order, and offsets in fields. Assumes nothing.
use Prim.Native.Nat.{ℕ, ◌≤◌, ◌<◌}
use mathlib.Core.Path.{◌≡◌}
use mathlib.Core.Bool.{true}
use lib.Dec.{leb}
use borrow.Author.Tests.{leb-true, ltb-true}
use Rattle.laws.specs.Below.{each_below}
use Rattle.laws.proofs.Tests.{and_both}
use Rattle.laws.proofs.Below.{in_row, each_at}
use Rattle.record.specs.Table.{start_of, end_of}
use Rattle.writing.specs.Writing.{in_field}

-- a field ends before a later one starts
pub ordered : (f g : ℕ) → f < g → g < 15 → end_of f ≤ start_of g
ordered f g h l =
    leb-true (end_of f) (start_of g)
    (each_at g (λ k. leb (end_of k) (start_of g)) (in_row 15 (λ j. each_below j (λ k. leb (end_of k) (start_of j))) tt g l) f h)

pub in_says : (k f : ℕ) → in_field k f ≡ true → (start_of f ≤ k) × (k < end_of f)
in_says k f e =
    let p = and_both e in
    (leb-true (start_of f) k p.0, ltb-true k (end_of f) p.1)
