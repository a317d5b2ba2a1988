-- The values of languages and regions, by the ways that the code goes. Assumes nothing.
use Prim.Native.Nat.{ℕ}
use mathlib.Core.Path.{◌≡◌, refl, sym, ap, subst}
use mathlib.Core.List.{List, [], ◌∷◌}
use mathlib.Core.Bool.{Bool, cond}
use lib.ListN.{length, get_or}
use borrow.Author.Tests.{eq-eqb}
use Rattle.laws.proofs.Lists.{elements}
use Rattle.buffer.specs.Ascii.{ascii}
use Rattle.compare.specs.Compare.{same}
use Rattle.letters.specs.Letters.{two, three, language_value, region_value}

-- two bytes as a language
pub language_of_two : (s : List ℕ) → length s ≡ 2 → two 97 122 (get_or s 0 0) (get_or s 1 0) ≡ language_value s
unfolding language_value
language_of_two s h = ap language_value (elements 2 s h)

-- three bytes, by the test for "car"
pub language_of_three : (s : List ℕ) (car : Bool) → length s ≡ 3 → same s (ascii "car") ≡ car
    → cond car 0 (three 97 122 (get_or s 0 0) (get_or s 1 0) (get_or s 2 0)) ≡ language_value s
unfolding language_value
language_of_three s car h e =
    rw (sym e)
    (subst (λ l. cond (same l (ascii "car")) 0 (three 97 122 (get_or l 0 0) (get_or l 1 0) (get_or l 2 0)) ≡ language_value l) (elements 3 s h) refl)

-- any other number of bytes
pub language_of_other : (s : List ℕ) → (length s ≡ 2 → ⊥) → (length s ≡ 3 → ⊥) → 0 ≡ language_value s
unfolding language_value
language_of_other [] n m = refl
language_of_other (a ∷ []) n m = refl
language_of_other (a ∷ b ∷ []) n m = absurd (n refl)
language_of_other (a ∷ b ∷ c ∷ []) n m = absurd (m refl)
language_of_other (a ∷ b ∷ c ∷ d ∷ s) n m = refl

-- three bytes as a region, of which the first is 'r'
pub region_of_three : (s : List ℕ) → length s ≡ 3 → get_or s 0 0 ≡ 114 → two 65 90 (get_or s 1 0) (get_or s 2 0) ≡ region_value s
unfolding region_value
region_of_three s h e = rw (eq-eqb (get_or s 0 0) 114 e) at (ap region_value (elements 3 s h))

-- four bytes
pub region_of_four : (s : List ℕ) → length s ≡ 4 → get_or s 0 0 ≡ 114 → three 48 57 (get_or s 1 0) (get_or s 2 0) (get_or s 3 0) ≡ region_value s
unfolding region_value
region_of_four s h e = rw (eq-eqb (get_or s 0 0) 114 e) at (ap region_value (elements 4 s h))

-- any other number of bytes
pub region_of_other : (s : List ℕ) → (length s ≡ 3 → ⊥) → (length s ≡ 4 → ⊥) → 0 ≡ region_value s
unfolding region_value
region_of_other [] n m = refl
region_of_other (r ∷ []) n m = refl
region_of_other (r ∷ a ∷ []) n m = refl
region_of_other (r ∷ a ∷ b ∷ []) n m = absurd (n refl)
region_of_other (r ∷ a ∷ b ∷ c ∷ []) n m = absurd (m refl)
region_of_other (r ∷ a ∷ b ∷ c ∷ d ∷ s) n m = refl
