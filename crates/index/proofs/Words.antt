-- The offsets and the counts in held numbers. Assumes nothing.
use Prim.Native.Nat.{ℕ, zero, suc, ◌+◌, ◌*◌, ◌/◌, ◌%◌, ◌≤◌, ◌<◌}
use mathlib.Core.Path.{◌≡◌, refl, sym, ap, ◌∙◌}
use mathlib.Core.List.{List, [], ◌∷◌, map}
use mathlib.Core.Bool.{Bool, true, false}
use native.Mathlib.Omega.{arith}
use lib.ListN.{length, get_or, take, set}
use lib.Seq.{get_or-take, length-take-le}
use Rattle.laws.proofs.Lists.{mapped_at}
use Rattle.order_at.specs.OrderAt.{order_at}
use Rattle.order.proofs.Total.{order_flip, transitive}
use Rattle.rising.specs.Rising.{Ranks}
use Rattle.rising.specs.Steps.{insert_at}
use Rattle.index.specs.Steps.{unit_of, count_step, places_in, counts_in}

-- the order of the records at two offsets ranks the offsets
pub ranks : (s : List ℕ) → Ranks (order_at s)
unfolding order_at
ranks s =
    record {
      back = λ p q. order_flip _ _;
      on = λ p q r. transitive.less _ _ _;
      alike = λ p q r. transitive.equal _ _ _;
    }

-- as many as there are
pub map_long : (f : ℕ → ℕ) (l : List ℕ) → length (map f l) ≡ length l
map_long f [] = refl
map_long f (x ∷ l) = ap suc (map_long f l)

map_set : (f : ℕ → ℕ) (l : List ℕ) (j v : ℕ) → map f (set l j v) ≡ set (map f l) j (f v)
map_set f [] j v = refl
map_set f (x ∷ l) zero v = refl
map_set f (x ∷ l) (suc j) v = ap (λ (k : List ℕ). f x ∷ k) (map_set f l j v)

pub set_own : (l : List ℕ) (j v : ℕ) → v ≡ get_or l j 0 → set l j v ≡ l
set_own [] j v e = refl
set_own (x ∷ l) zero v e = ap (λ (y : ℕ). y ∷ l) e
set_own (x ∷ l) (suc j) v e = ap (λ (k : List ℕ). x ∷ k) (set_own l j v e)

map_insert : (f : ℕ → ℕ) (l : List ℕ) (j v : ℕ) → map f (insert_at j v l) ≡ insert_at j (f v) (map f l)
map_insert f l zero v = refl
map_insert f [] (suc j) v = refl
map_insert f (x ∷ l) (suc j) v = ap (λ (k : List ℕ). f x ∷ k) (map_insert f l j v)

-- one more counted beside an offset, where the count has room, leaves the offset
more_place : (b : Bool) (w : ℕ) → w % unit_of b + count_step b < unit_of b → (w + count_step b) / unit_of b ≡ w / unit_of b
more_place true w h = omega arith
more_place false w h = omega arith

more_count : (b : Bool) (w : ℕ) → w % unit_of b + count_step b < unit_of b → (w + count_step b) % unit_of b ≡ w % unit_of b + count_step b
more_count true w h = omega arith
more_count false w h = omega arith

pub more_fits : (b : Bool) (w : ℕ) → w < 18446744073709551616 → w % unit_of b + count_step b < unit_of b → w + count_step b < 18446744073709551616
more_fits true w g h = omega arith
more_fits false w g h = omega arith

-- what is held for the first at an offset
first_place : (b : Bool) (p : ℕ) → (p * unit_of b + count_step b) / unit_of b ≡ p
first_place true p = omega arith
first_place false p = omega arith

first_count : (b : Bool) (p : ℕ) → (p * unit_of b + count_step b) % unit_of b ≡ count_step b
first_count true p = omega arith
first_count false p = omega arith

module _ (b : Bool) (held : List ℕ) (m : ℕ) (room : m ≤ length held) where
  -- the offset at a place of the first m
  pub place_at : (i : ℕ) → i < m → get_or (places_in b (take m held)) i 0 ≡ get_or held i 0 / unit_of b
  place_at i h =
      mapped_at (λ (w : ℕ). w / unit_of b) (take m held) i 0 0 (omega (arith, length-take-le m held room))
      ∙ ap (λ (w : ℕ). w / unit_of b) (get_or-take m held i 0 h)

  pub count_at : (i : ℕ) → i < m → get_or (counts_in b (take m held)) i 0 ≡ get_or held i 0 % unit_of b
  count_at i h =
      mapped_at (λ (w : ℕ). w % unit_of b) (take m held) i 0 0 (omega (arith, length-take-le m held room))
      ∙ ap (λ (w : ℕ). w % unit_of b) (get_or-take m held i 0 h)

  pub places_long : length (places_in b (take m held)) ≡ m
  places_long = map_long (λ (w : ℕ). w / unit_of b) (take m held) ∙ length-take-le m held room

  pub counts_long : length (counts_in b (take m held)) ≡ m
  counts_long = map_long (λ (w : ℕ). w % unit_of b) (take m held) ∙ length-take-le m held room

module _ (b : Bool) (l : List ℕ) (j w : ℕ) (is : w ≡ get_or l j 0) (h : w % unit_of b + count_step b < unit_of b) (here : j < length l) where
  -- one more counted at a place
  pub places_more : places_in b (set l j (w + count_step b)) ≡ places_in b l
  places_more =
      map_set (λ (v : ℕ). v / unit_of b) l j (w + count_step b)
      ∙ set_own (places_in b l) j _ (more_place b w h ∙ ap (λ (v : ℕ). v / unit_of b) is ∙ sym (mapped_at (λ (v : ℕ). v / unit_of b) l j 0 0 here))

  pub counts_more : counts_in b (set l j (w + count_step b)) ≡ set (counts_in b l) j (get_or (counts_in b l) j 0 + count_step b)
  counts_more =
      map_set (λ (v : ℕ). v % unit_of b) l j (w + count_step b)
      ∙ ap (set (counts_in b l) j)
      (more_count b w h ∙ ap (λ (v : ℕ). v % unit_of b + count_step b) is
      ∙ ap (λ (n : ℕ). n + count_step b) (sym (mapped_at (λ (v : ℕ). v % unit_of b) l j 0 0 here)))

-- a new one put in at a place
pub places_new : (b : Bool) (l : List ℕ) (j p : ℕ) → places_in b (insert_at j (p * unit_of b + count_step b) l) ≡ insert_at j p (places_in b l)
places_new b l j p =
    map_insert (λ (v : ℕ). v / unit_of b) l j (p * unit_of b + count_step b) ∙ ap (λ (q : ℕ). insert_at j q (places_in b l)) (first_place b p)

pub counts_new : (b : Bool) (l : List ℕ) (j p : ℕ) → counts_in b (insert_at j (p * unit_of b + count_step b) l) ≡ insert_at j (count_step b) (counts_in b l)
counts_new b l j p =
    map_insert (λ (v : ℕ). v % unit_of b) l j (p * unit_of b + count_step b) ∙ ap (λ (n : ℕ). insert_at j n (counts_in b l)) (first_count b p)
