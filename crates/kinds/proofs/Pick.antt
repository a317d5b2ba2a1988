-- What a table picks: what the last arm of a `match` over its numbers answers, and what holds of every entry. Assumes nothing.
use Prim.Native.Nat.{ℕ}
use mathlib.Core.Path.{◌≡◌, refl}
use mathlib.Core.List.{List, [], ◌∷◌}
use lib.Dec.{eqb}
use borrow.Author.Tests.{eqb-true, ne_eqb}
use Rattle.laws.proofs.Arms.{RestAfter, Rest, still}
use Rattle.laws.proofs.Choice.{chosen_by}
use Rattle.laws.proofs.Lists.{Each}
use Rattle.kinds.specs.Pick.{pick}

-- the numbers of a table
abbrev pub numbers : {A : Type 0} → List (ℕ × A) → List ℕ
numbers [] = []
numbers (e ∷ t) = e.0 ∷ numbers t

pick_after : {A : Type 0} (known : Type 0) (t : List (ℕ × A)) (other : A) (n : ℕ) → RestAfter known n (numbers t) → other ≡ pick t other n
pick_after known [] other n h = refl
pick_after known (e ∷ t) other n h =
    let more = known × (n ≡ e.0 → ⊥) in
    rw (ne_eqb n e.0 (still more n (numbers t) h).1) (pick_after more t other n h)

-- a number that is none of the table's picks what is left
pub pick_rest : {A : Type 0} (t : List (ℕ × A)) (other : A) (n : ℕ) → Rest n (numbers t) → other ≡ pick t other n
pick_rest t other n h = pick_after (Unit {0}) t other n h

-- P holds of each row's number and entry
abbrev pub EachRow : {A : Type 0} → (ℕ → A → Type 0) → List (ℕ × A) → Type 0
EachRow P t = Each (λ e. P e.0 e.1) t

-- what holds of each row, and of n and what is left, holds of n and what is picked
pub pick_each : {A : Type 0} (P : ℕ → A → Type 0) (t : List (ℕ × A)) (other : A) (n : ℕ) → EachRow P t → P n other → P n (pick t other n)
pick_each P [] other n h k = k
pick_each P (e ∷ t) other n h k =
    chosen_by (P n) (eqb n e.0) (λ q. rw (eqb-true n e.0 q) h.0) (λ q. pick_each P t other n h.1 k)
