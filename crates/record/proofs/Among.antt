-- A number among some, as the library's search finds it. Assumes nothing.
use Prim.Native.Nat.{ℕ}
use mathlib.Core.Path.{◌≡◌, refl, sym}
use mathlib.Core.List.{List, [], ◌∷◌}
use native.Mathlib.Decide.{ℕ_discrete}
use lib.Dec.{eqb}
use borrow.Author.Tests.{eq-eqb, ne_eqb}
use Rattle.std.specs.List.{list_any}
use Rattle.record.specs.Ages.{among}

-- equal, in either order
turned : (a n : ℕ) → eqb a n ≡ eqb n a
turned a n =
    elim (ℕ_discrete a n) [
      | yes e ↦ rw (eq-eqb a n e, eq-eqb n a (sym e))
      | no d ↦ rw (ne_eqb a n d, ne_eqb n a (λ e. d (sym e)))
    ]

-- whether one of some numbers is this one
pub any_among : (n : ℕ) (l : List ℕ) → list_any (λ a. eqb a n) l ≡ among n l
any_among n [] = refl
any_among n (a ∷ l) = rw (turned a n, any_among n l)
