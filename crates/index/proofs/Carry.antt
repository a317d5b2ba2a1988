-- Carrying along an array puts one in and moves the rest up. Assumes nothing.
use Prim.Native.Nat.{ℕ, zero, suc, ◌+◌, ◌-◌, ◌<◌}
use mathlib.Core.Path.{◌≡◌, refl, ap, ◌∙◌}
use mathlib.Core.List.{List, [], ◌∷◌}
use native.Mathlib.Omega.{arith}
use lib.ListN.{length, get_or, take, set, length-set}
use Rattle.rising.specs.Steps.{insert_at}
use Rattle.index.specs.Steps.{carry}

pub carry_cons : (q : ℕ) (a : List ℕ) (i x n : ℕ) → carry (q ∷ a) (suc i) x n ≡ q ∷ carry a i x n
unfolding carry
carry_cons q a i x zero = refl
carry_cons q a i x (suc n) = carry_cons q (set a i x) (suc i) (get_or a i 0) n

carry_front : (a : List ℕ) (x m : ℕ) → m < length a → take (suc m) (carry a 0 x (suc m)) ≡ x ∷ take m a
unfolding carry
carry_front [] x m h = absurd (none h)
  where
    none : m < 0 → ⊥
    none g = omega arith
carry_front (q ∷ a) x zero h = refl
carry_front (q ∷ a) x (suc m) h =
    rw (carry_cons x a 0 q (suc m)) (ap (λ (l : List ℕ). x ∷ l) (carry_front a q m (omega arith)))

-- the first m of a with x put in at place i
pub carry_take : (a : List ℕ) (i x m k : ℕ) → m ≡ i + k → m < length a → take (suc m) (carry a i x (suc k)) ≡ insert_at i x (take m a)
carry_take a zero x m k e h =
    let f : k ≡ m = omega arith in
    ap (λ (j : ℕ). take (suc m) (carry a 0 x (suc j))) f ∙ carry_front a x m h
carry_take [] (suc i) x m k e h = absurd (none h)
  where
    none : m < 0 → ⊥
    none g = omega arith
carry_take (q ∷ a) (suc i) x zero k e h = absurd (none e)
  where
    none : 0 ≡ suc i + k → ⊥
    none g = omega arith
carry_take (q ∷ a) (suc i) x (suc m) k e h =
    rw (carry_cons q a i x (suc k)) (ap (λ (l : List ℕ). q ∷ l) (carry_take a i x m k (omega arith) (omega arith)))

pub carry_length : (a : List ℕ) (i x n : ℕ) → length (carry a i x n) ≡ length a
unfolding carry
carry_length a i x zero = refl
carry_length a i x (suc n) = carry_length (set a i x) (suc i) (get_or a i 0) n ∙ length-set a i x

-- one place carried
pub carry_on : (a : List ℕ) (i x n : ℕ) → 0 < n → carry a i x n ≡ carry (set a i x) (i + 1) (get_or a i 0) (n - 1)
unfolding carry
carry_on a i x zero h = absurd (none h)
  where
    none : 0 < 0 → ⊥
    none g = omega arith
carry_on a i x (suc n) h =
    let e : suc i ≡ i + 1 = omega arith in
    let f : n ≡ suc n - 1 = omega arith in
    ap (λ (j : ℕ). carry (set a i x) j (get_or a i 0) n) e ∙ ap (carry (set a i x) (i + 1) (get_or a i 0)) f

pub carry_done : (a : List ℕ) (i x n : ℕ) → n ≡ 0 → carry a i x n ≡ a
unfolding carry
carry_done a i x n e = ap (carry a i x) e
