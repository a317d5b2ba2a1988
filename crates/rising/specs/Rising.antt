-- Places in an order: the first of each kind, in rising order, and how many are alike. A place is any number. Assumes nothing.
use Rattle.std.specs.Prelude.{ℕ, suc, ◌+◌, ◌≡◌, Bool, true, false, List, [], ◌∷◌}
use Rattle.order.specs.declared.Ordering.{Ordering}
use Rattle.order.specs.Total.{flip}

-- x, y or z, as an order is Less, Equal or Greater
abbrev pub by_order : {A : Type 0} → Ordering → A → A → A → A
by_order Ordering.Less x y z = x
by_order Ordering.Equal x y z = y
by_order Ordering.Greater x y z = z

-- what f gives of the first of the places that stands Equal to something; d where none does
unfoldable pub of_first : {A : Type 0} → (ℕ → Ordering) → (ℕ → A) → List ℕ → A → A
of_first to f [] d = d
of_first to f (p ∷ ps) d = by_order (to p) (of_first to f ps d) (f p) (of_first to f ps d)

-- the first of the places that stands Equal; d where none does
abbrev pub first_equal : (ℕ → Ordering) → List ℕ → ℕ → ℕ
first_equal to ps d = of_first to (λ p. p) ps d

-- whether one of the places stands Equal
abbrev pub some_equal : (ℕ → Ordering) → List ℕ → Bool
some_equal to ps = of_first to (λ p. true) ps false

-- how many of the places stand Equal
unfoldable pub count_equal : (ℕ → Ordering) → List ℕ → ℕ
count_equal to [] = 0
count_equal to (p ∷ ps) = by_order (to p) (count_equal to ps) (suc (count_equal to ps)) (count_equal to ps)

-- the places that aren't Equal to p
unfoldable pub without : (ℕ → ℕ → Ordering) → ℕ → List ℕ → List ℕ
without how p [] = []
without how p (q ∷ qs) = by_order (how q p) (q ∷ without how p qs) (without how p qs) (q ∷ without how p qs)

-- the first of each kind: a place stays, and those behind it that are Equal to it go
unfoldable pub distinct : (ℕ → ℕ → Ordering) → List ℕ → List ℕ
distinct how [] = []
distinct how (p ∷ ps) = p ∷ without how p (distinct how ps)

-- p in front of the first of the places that isn't Less
unfoldable pub sorted_in : (ℕ → ℕ → Ordering) → ℕ → List ℕ → List ℕ
sorted_in how p [] = p ∷ []
sorted_in how p (q ∷ qs) = by_order (how q p) (q ∷ sorted_in how p qs) (p ∷ q ∷ qs) (p ∷ q ∷ qs)

-- the places, sorted
unfoldable pub sorted : (ℕ → ℕ → Ordering) → List ℕ → List ℕ
sorted how [] = []
sorted how (p ∷ ps) = sorted_in how p (sorted how ps)

-- the sum of some numbers
abbrev pub sum : List ℕ → ℕ
sum [] = 0
sum (n ∷ ns) = n + sum ns

-- every place of qs is greater than p
abbrev pub Above : (ℕ → ℕ → Ordering) → ℕ → List ℕ → Type 0
Above how p [] = Unit {0}
Above how p (q ∷ qs) = (how p q ≡ Ordering.Less) × Above how p qs

-- the places rise: each is less than all behind it, so no two are Equal
abbrev pub Rises : (ℕ → ℕ → Ordering) → List ℕ → Type 0
Rises how [] = Unit {0}
Rises how (q ∷ qs) = Above how q qs × Rises how qs

-- what is asked of an order of places: read from the other side it is turned; Less than what is Less is Less; Equal ones stand alike to any
pub record Ranks (how : ℕ → ℕ → Ordering) : Type 0 where
  pub back : (p q : ℕ) → how q p ≡ flip (how p q)
  pub on : (p q r : ℕ) → how p q ≡ Ordering.Less → how q r ≡ Ordering.Less → how p r ≡ Ordering.Less
  pub alike : (p q r : ℕ) → how p q ≡ Ordering.Equal → how p r ≡ how q r

-- rising places in which anything is found as it is among ps are the first of each kind of ps, sorted
abbrev pub RisingFixes : Type 0
RisingFixes =
    (how : ℕ → ℕ → Ordering) → Ranks how → (qs ps : List ℕ) → Rises how qs
    → ((x d : ℕ) → first_equal (λ q. how q x) qs d ≡ first_equal (λ p. how p x) ps d)
    → qs ≡ sorted how (distinct how ps)
