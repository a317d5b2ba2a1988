-- What the last arm of a `match` over numbers knows of its number. Assumes nothing.
use Prim.Native.Nat.{ℕ, zero, suc, ◌≤◌, ◌<◌}
use mathlib.Core.Path.{◌≡◌}
use mathlib.Core.List.{List, [], ◌∷◌}
use native.Mathlib.Omega.{arith}

-- what was known before, and that n is none of some numbers
abbrev pub RestAfter : Type 0 → ℕ → List ℕ → Type 0
RestAfter known n [] = known
RestAfter known n (a ∷ more) = RestAfter (known × (n ≡ a → ⊥)) n more

-- n is none of some numbers: word for word the `.match .rest` of the last arm
abbrev pub Rest : ℕ → List ℕ → Type 0
Rest n l = RestAfter (Unit {0}) n l

-- what was known before is known still
pub still : (known : Type 0) (n : ℕ) (l : List ℕ) → RestAfter known n l → known
still known n [] h = h
still known n (a ∷ more) h = (still (known × (n ≡ a → ⊥)) n more h).0

-- n is none of 0 to k - 1: the same, where these are the numbers
abbrev pub Past : ℕ → ℕ → Type 0
Past zero n = Unit {0}
Past (suc k) n = Past k n × (n ≡ k → ⊥)

-- so it is k or more
pub past : (k n : ℕ) → Past k n → k ≤ n
past zero n p = omega arith
past (suc k) n p = let h = past k n p.0 in let g : n ≡ k → ⊥ = p.1 in omega arith

-- and k itself, where it is at most k
pub last_one : (k n : ℕ) → Past k n → n < suc k → n ≡ k
last_one k n p h = let g = past k n p in omega arith
