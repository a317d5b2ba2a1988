-- Parts of a list, its elements one by one, and what holds of each element. Assumes nothing.
use Prim.Native.Nat.{ℕ, zero, suc, ◌+◌, ◌-◌, ◌≤◌, ◌<◌, min}
use mathlib.Core.Path.{◌≡◌, refl, sym, ap, ◌∙◌}
use mathlib.Core.List.{List, [], ◌∷◌, map}
use native.Mathlib.Nat.{add-zero, add-suc, le_of_suc-le-suc, not-suc-le-zero}
use native.Mathlib.Omega.{arith}
use native.Mathlib.Decide.{dec_le}
use lib.ListN.{length, get_or, take, drop, length-take, length-drop, drop_of_length-le}
use lib.Seq.{take_all, drop-cons, get_or-take, get_or-drop}

-- what `&s[m..]` holds
abbrev pub rest : List ℕ → ℕ → List ℕ
rest s m = take (length s - m) (drop m s)

-- it is all that stands from m on
pub rest_is : (s : List ℕ) (m : ℕ) → rest s m ≡ drop m s
rest_is s m = take_all (length s - m) (drop m s) (omega (arith, length-drop m s))

-- from the lesser of an offset and the end on
pub rest_from : (s : List ℕ) (p m : ℕ) → m ≡ min p (length s) → rest s m ≡ drop p s
rest_from s p m e =
    elim (dec_le p (length s)) [
      | yes h ↦ let g : m ≡ p = omega arith in rest_is s m ∙ ap (λ (n : ℕ). drop n s) g
      | no h ↦ rest_is s m ∙ drop_of_length-le s {i = m} (omega arith) ∙ sym (drop_of_length-le s {i = p} (omega arith))
    ]

-- a part that is there has its length
pub part_long : (s : List ℕ) (a n : ℕ) → a + n ≤ length s → length (take n (drop a s)) ≡ n
part_long s a n h = omega (arith, length-take n (drop a s), length-drop a s)

-- an element of a part, by its offset in the whole
pub part_at : (s : List ℕ) (a n k : ℕ) → a ≤ k → k - a < n → get_or (take n (drop a s)) (k - a) 0 ≡ get_or s k 0
part_at s a n k h g =
    let e : a + (k - a) ≡ k = omega arith in
    get_or-take n (drop a s) (k - a) 0 g ∙ get_or-drop a s (k - a) 0 ∙ ap (λ (m : ℕ). get_or s m 0) e

-- n elements of s, from offset i + k on
abbrev pub listed : List ℕ → ℕ → ℕ → ℕ → List ℕ
listed s i k zero = []
listed s i k (suc n) = get_or s (i + k) 0 ∷ listed s i (suc k) n

part_listed : (s : List ℕ) (i k n : ℕ) → i + k + n ≤ length s → take n (drop (i + k) s) ≡ listed s i k n
part_listed s i k zero h = refl
part_listed s i k (suc n) h =
    let p : i + k < length s = omega arith in
    rw (drop-cons s (i + k) 0, ← add-suc i k, part_listed s i (suc k) n (omega (arith, add-suc i k)))

-- one element and more: what a read of n + 1 bytes from offset i on gives, whatever n is
pub row : (s : List ℕ) (i n : ℕ) → i + suc n ≤ length s → get_or s i 0 ∷ listed s i 1 n ≡ take (suc n) (drop i s)
row s i n h = sym (simp add-zero at (part_listed s i 0 (suc n) (omega arith)))

-- a list is its elements
pub elements : (n : ℕ) (l : List ℕ) → length l ≡ n → listed l 0 0 n ≡ l
elements n l h = sym (part_listed l 0 0 n (omega arith)) ∙ take_all n l (omega arith)

-- an element of what a function makes of each
pub mapped_at : {A B : Type 0} (f : A → B) (l : List A) (i : ℕ) (a : A) (b : B) → i < length l → get_or (map f l) i b ≡ f (get_or l i a)
mapped_at f [] i a b h = absurd (not-suc-le-zero h)
mapped_at f (x ∷ l) zero a b h = refl
mapped_at f (x ∷ l) (suc i) a b h = mapped_at f l i a b (le_of_suc-le-suc h)

-- P holds of each element of a list
abbrev pub Each : {A : Type 0} → (A → Type 0) → List A → Type 0
Each P [] = Unit {0}
Each P (a ∷ l) = P a × Each P l
