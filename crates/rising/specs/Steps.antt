-- What the machinery of an index does with rising places and the counts beside them. Assumes nothing.
use Rattle.std.specs.Prelude.{ℕ, zero, suc, ◌+◌, Bool, true, false, List, [], ◌∷◌}
use Rattle.order.specs.declared.Ordering.{Ordering}
use Rattle.rising.specs.Rising.{by_order}

-- how many of the front places are Less
unfoldable pub rank : (ℕ → Ordering) → List ℕ → ℕ
rank to [] = 0
rank to (q ∷ qs) = by_order (to q) (suc (rank to qs)) 0 0

-- what f gives of the place behind the Less ones where it is Equal; else d
unfoldable pub held : {A : Type 0} → (ℕ → Ordering) → (ℕ → A) → List ℕ → A → A
held to f [] d = d
held to f (q ∷ qs) d = by_order (to q) (held to f qs d) (f q) d

-- whether an Equal one stands behind the Less ones
abbrev pub hit : (ℕ → Ordering) → List ℕ → Bool
hit to qs = held to (λ q. true) qs false

-- p taken into rising places: behind the lesser ones; where an Equal one stands, that one stays
unfoldable pub taken_in : (ℕ → ℕ → Ordering) → ℕ → List ℕ → List ℕ
taken_in how p [] = p ∷ []
taken_in how p (q ∷ qs) = by_order (how q p) (q ∷ taken_in how p qs) (q ∷ qs) (p ∷ q ∷ qs)

-- the places ps taken in one after the other
unfoldable pub risen : (ℕ → ℕ → Ordering) → List ℕ → List ℕ → List ℕ
risen how qs [] = qs
risen how qs (p ∷ ps) = risen how (taken_in how p qs) ps

-- x put in at place i of a list
abbrev pub insert_at : ℕ → ℕ → List ℕ → List ℕ
insert_at zero x qs = x ∷ qs
insert_at (suc i) x [] = x ∷ []
insert_at (suc i) x (q ∷ qs) = q ∷ insert_at i x qs

-- the counts ns beside the places qs, with k more for one that stands to the places as `to` says
unfoldable pub recount : ℕ → (ℕ → Ordering) → List ℕ → List ℕ → List ℕ
recount k to [] ns = k ∷ []
recount k to (q ∷ qs) [] = []
recount k to (q ∷ qs) (n ∷ ns) = by_order (to q) (n ∷ recount k to qs ns) ((n + k) ∷ ns) (k ∷ n ∷ ns)

-- the count that stands beside the place that is Equal; 0 where none is
unfoldable pub tallied : (ℕ → Ordering) → List ℕ → List ℕ → ℕ
tallied to [] ns = 0
tallied to (q ∷ qs) [] = 0
tallied to (q ∷ qs) (n ∷ ns) = by_order (to q) (tallied to qs ns) n 0
