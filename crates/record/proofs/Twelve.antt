-- The twelve ages: which numbers they are, and what holds of each. Assumes nothing.
use Prim.Native.Nat.{ℕ, zero, suc, ◌≤◌, ◌<◌}
use mathlib.Core.Path.{◌≡◌, refl}
use mathlib.Core.Bool.{Bool, true, false, ◌||◌, ◌&&◌, false≢true}
use mathlib.Core.List.{List, [], ◌∷◌, Memᴰ}
use native.Mathlib.Omega.{arith}
use lib.Dec.{eqb, leb}
use lib.ListN.{length, get_or}
use borrow.Author.Tests.{eqb-true, eq-eqb, leb-true}
use Rattle.laws.proofs.Tests.{and_both, or_right}
use Rattle.record.specs.Ages.{ages, among, is_age}

by_first : (n a : ℕ) (l : List ℕ) (t : Bool) → eqb n a ≡ t → (among n l ≡ true → Memᴰ n l) → (t || among n l) ≡ true
    → Memᴰ n (a ∷ l)
by_first n a l true p more e = Memᴰ.head (eqb-true n a p)
by_first n a l false p more e = Memᴰ.tail (more e)

among_member : (n : ℕ) (l : List ℕ) → among n l ≡ true → Memᴰ n l
among_member n [] e = absurd (false≢true e)
among_member n (a ∷ l) e = by_first n a l (eqb n a) refl (among_member n l) e

member_among : (n : ℕ) (l : List ℕ) → Memᴰ n l → among n l ≡ true
member_among n [] m = elim m [ ]
member_among n (a ∷ l) (Memᴰ.head e) = rw (eq-eqb n a e)
member_among n (a ∷ l) (Memᴰ.tail m) = or_right (eqb n a) (member_among n l m)

-- an age is one of the twelve
pub age_member : (a : ℕ) → is_age a ≡ true → Memᴰ a ages
unfolding is_age
age_member a h = among_member a ages h

-- and each of the twelve is an age
pub member_age : (a : ℕ) → Memᴰ a ages → is_age a ≡ true
unfolding is_age
member_age a m = member_among a ages m

row_member : (l : List ℕ) (row : ℕ) → row < length l → Memᴰ (get_or l row 0) l
row_member [] row h = absurd (none h)
  where
    none : row < zero → ⊥
    none g = omega arith
row_member (a ∷ l) zero h = Memᴰ.head refl
row_member (a ∷ l) (suc row) h = let g : row < length l = omega arith in Memᴰ.tail (row_member l row g)

-- each row of the twelve has an age
pub row_age : (row : ℕ) → row < 12 → is_age (get_or ages row 0) ≡ true
row_age row h = member_age (get_or ages row 0) (row_member ages row h)

-- whether a test holds of each of some numbers
abbrev pub holds_of : (ℕ → Bool) → List ℕ → Bool
holds_of f [] = true
holds_of f (a ∷ l) = f a && holds_of f l

held : (f : ℕ → Bool) (n : ℕ) (l : List ℕ) → holds_of f l ≡ true → Memᴰ n l → f n ≡ true
held f n [] h m = elim m [ ]
held f n (a ∷ l) h (Memᴰ.head e) = rw e (and_both {a = f a} h).0
held f n (a ∷ l) h (Memᴰ.tail m) = held f n l (and_both {a = f a} h).1 m

-- a test that holds of each of the twelve, as computed, holds of every age
pub test_ages : (f : ℕ → Bool) → holds_of f ages ≡ true → (a : ℕ) → is_age a ≡ true → f a ≡ true
test_ages f h a g = held f a ages h (age_member a g)

-- an age is 16 or more, and 64 or less
pub age_bounds : (a : ℕ) → is_age a ≡ true → (16 ≤ a) × (a ≤ 64)
age_bounds a h =
    let t = and_both (test_ages (λ n. leb 16 n && leb n 64) refl a h) in
    (leb-true 16 a t.0, leb-true a 64 t.1)
