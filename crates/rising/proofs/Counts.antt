-- What is counted so far and what is left make up the count of each place. Assumes nothing.
use Prim.Native.Nat.{ℕ, suc, ◌+◌, ◌*◌, ◌≤◌, ◌<◌}
use mathlib.Core.Path.{◌≡◌, refl, sym, ap, ◌∙◌}
use mathlib.Core.List.{List, [], ◌∷◌, map}
use mathlib.Core.Bool.{Bool, true, false, cond}
use native.Mathlib.Omega.{arith}
use native.Mathlib.Nat.{zero-add, mul-suc}
use lib.ListN.{length, get_or, set}
use Rattle.laws.proofs.Tests.{clash}
use Rattle.order.specs.declared.Ordering.{Ordering}
use Rattle.rising.specs.Rising.{by_order, of_first, some_equal, count_equal, Rises, Ranks}
use Rattle.rising.specs.Steps.{rank, held, hit, taken_in, insert_at, recount, tallied}
use Rattle.rising.proofs.Ranked.{cases, Toward, own_equal, greater_back}
use Rattle.rising.proofs.Places.{above_at}

-- two lists of one length end together
pub ends : {A : Type 0} {n : ℕ} → suc n ≡ 0 → A
ends e = absurd (omega arith)

module _ (how : ℕ → ℕ → Ordering) (good : Ranks how) (k : ℕ) where
  -- k more counted of p, each count is the one before, and k more where p is Equal
  pub tallied_more : {to : ℕ → Ordering} → Toward how to → (p : ℕ) (qs ns : List ℕ) → length qs ≡ length ns
      → tallied to (taken_in how p qs) (recount k (λ q. how q p) qs ns) ≡ by_order (to p) (tallied to qs ns) (tallied to qs ns + k) (tallied to qs ns)
  unfolding tallied taken_in recount
  tallied_more {to} w p [] ns h =
      cases (to p)
      (λ e. rw e)
      (λ e. rw e (sym (zero-add k)))
      (λ e. rw e)
  tallied_more w p (q ∷ qs) [] h = ends h
  tallied_more {to} w p (q ∷ qs) (n ∷ ns) h =
      cases (how q p)
      (λ e. rw e
      (cases (to q)
      (λ f. rw f (tallied_more w p qs ns (omega arith)))
      (λ f. rw (f, w.past q p e f))
      (λ f. rw (f, w.stays q p e f))))
      (λ e. rw (e, sym (w.same q p e))
      (cases (to q)
      (λ f. rw f)
      (λ f. rw f)
      (λ f. rw f)))
      (λ e. rw e
      (let b = greater_back how good q p e in
      cases (to p)
      (λ f. rw f)
      (λ f. rw (f, w.past p q b f) (sym (zero-add k)))
      (λ f. rw (f, w.stays p q b f))))

  -- so what is counted and what is left to count add up
  pub tallied_next : {to : ℕ → Ordering} → Toward how to → (p c : ℕ) (qs ns ps : List ℕ) → length qs ≡ length ns
      → tallied to qs ns + k * count_equal to (p ∷ ps) ≡ c
      → tallied to (taken_in how p qs) (recount k (λ q. how q p) qs ns) + k * count_equal to ps ≡ c
  unfolding count_equal
  tallied_next {to} w p c qs ns ps h e =
      rw (tallied_more w p qs ns h)
      (cases (to p)
      (λ f. rw f (rw f at e))
      (λ f. rw f (one (tallied to qs ns) (count_equal to ps) (rw f at e)))
      (λ f. rw f (rw f at e)))
    where
      one : (t n : ℕ) → t + k * suc n ≡ c → t + k + k * n ≡ c
      one t n g = let m = mul-suc k n in omega (arith, m)

  pub recount_length : (p : ℕ) (qs ns : List ℕ) → length qs ≡ length ns → length (taken_in how p qs) ≡ length (recount k (λ q. how q p) qs ns)
  unfolding taken_in recount
  recount_length p [] ns h = refl
  recount_length p (q ∷ qs) [] h = ends h
  recount_length p (q ∷ qs) (n ∷ ns) h =
      let g : length qs ≡ length ns = omega arith in
      cases (how q p)
      (λ e. rw e (ap suc (recount_length p qs ns g)))
      (λ e. rw e h)
      (λ e. rw e (ap suc h))

-- what is tallied for one that is hit stands at its rank
pub tallied_hit : (to : ℕ → Ordering) (qs ns : List ℕ) → length qs ≡ length ns → hit to qs ≡ true → tallied to qs ns ≡ get_or ns (rank to qs) 0
unfolding tallied held rank
tallied_hit to [] ns h e = let z : ◌≡◌ {A = ℕ} 0 1 = cc in clash z
tallied_hit to (q ∷ qs) [] h e = ends h
tallied_hit to (q ∷ qs) (n ∷ ns) h e =
    cases (to q)
    (λ f. rw f (tallied_hit to qs ns (omega arith) (rw f at e)))
    (λ f. rw f)
    (λ f. let g : false ≡ true = rw f at e in let z : ◌≡◌ {A = ℕ} 0 1 = cc in clash z)

-- the counts beside rising places are what is tallied for them
pub counts_are : (how : ℕ → ℕ → Ordering) → Ranks how → (f : ℕ → ℕ) (qs ns : List ℕ) → length qs ≡ length ns → Rises how qs
    → ((i : ℕ) → i < length qs → tallied (λ q. how q (get_or qs i 0)) qs ns ≡ f (get_or qs i 0)) → ns ≡ map f qs
unfolding tallied
counts_are how good f [] [] h r t = refl
counts_are how good f [] (n ∷ ns) h r t = ends (sym h)
counts_are how good f (q ∷ qs) [] h r t = ends h
counts_are how good f (q ∷ qs) (n ∷ ns) h r t =
    let a : n ≡ f q = rw (own_equal how good q) at (t 0 (omega arith)) in
    let b : ns ≡ map f qs = counts_are how good f qs ns (omega arith) r.1 (λ i k. rw (above_at how q i qs r.0 k) at (t (suc i) (omega arith))) in
    cc

-- one is among its own
pub count_own : (how : ℕ → ℕ → Ordering) → Ranks how → (p : ℕ) (ps : List ℕ) → 1 ≤ count_equal (λ q. how q p) (p ∷ ps)
unfolding count_equal
count_own how good p ps = rw (own_equal how good p) (omega arith)

pub count_most : (to : ℕ → Ordering) (ps : List ℕ) → count_equal to ps ≤ length ps
unfolding count_equal
count_most to [] = omega arith
count_most to (q ∷ ps) =
    cases (to q)
    (λ e. rw e (omega (arith, count_most to ps)))
    (λ e. rw e (omega (arith, count_most to ps)))
    (λ e. rw e (omega (arith, count_most to ps)))

-- where one is counted one is Equal
pub some_counted : (to : ℕ → Ordering) (ps : List ℕ) → 1 ≤ count_equal to ps → some_equal to ps ≡ true
unfolding count_equal of_first
some_counted to [] h = absurd (omega arith)
some_counted to (q ∷ ps) h =
    cases (to q)
    (λ e. rw e (some_counted to ps (rw e at h)))
    (λ e. rw e)
    (λ e. rw e (some_counted to ps (rw e at h)))

-- nothing is tallied where all counts are 0
pub tallied_none : (to : ℕ → Ordering) (f : ℕ → ℕ) → ((x : ℕ) → f x ≡ 0) → (qs xs : List ℕ) → tallied to qs (map f xs) ≡ 0
unfolding tallied
tallied_none to f none [] xs = refl
tallied_none to f none (q ∷ qs) [] = refl
tallied_none to f none (q ∷ qs) (x ∷ xs) =
    cases (to q)
    (λ e. rw e (tallied_none to f none qs xs))
    (λ e. rw e (none x))
    (λ e. rw e)

-- k more counted: at the rank, where it is hit, or a new one put in
pub recount_is : (k : ℕ) (to : ℕ → Ordering) (qs ns : List ℕ) → length qs ≡ length ns
    → recount k to qs ns ≡ cond (hit to qs) (set ns (rank to qs) (get_or ns (rank to qs) 0 + k)) (insert_at (rank to qs) k ns)
unfolding recount held rank
recount_is k to [] [] h = refl
recount_is k to [] (n ∷ ns) h = ends (sym h)
recount_is k to (q ∷ qs) [] h = ends h
recount_is k to (q ∷ qs) (n ∷ ns) h =
    cases (to q)
    (λ e. rw e (by_hit (hit to qs) (recount_is k to qs ns (omega arith))))
    (λ e. rw e)
    (λ e. rw e)
  where
    by_hit : (b : Bool) → recount k to qs ns ≡ cond b (set ns (rank to qs) (get_or ns (rank to qs) 0 + k)) (insert_at (rank to qs) k ns)
        → n ∷ recount k to qs ns ≡ cond b (n ∷ set ns (rank to qs) (get_or ns (rank to qs) 0 + k)) (n ∷ insert_at (rank to qs) k ns)
    by_hit true e = ap (λ (l : List ℕ). n ∷ l) e
    by_hit false e = ap (λ (l : List ℕ). n ∷ l) e

pub recount_hit : (k : ℕ) (to : ℕ → Ordering) (qs ns : List ℕ) → length qs ≡ length ns → hit to qs ≡ true
    → recount k to qs ns ≡ set ns (rank to qs) (get_or ns (rank to qs) 0 + k)
recount_hit k to qs ns h e =
    recount_is k to qs ns h
    ∙ ap (λ (y : Bool). cond y (set ns (rank to qs) (get_or ns (rank to qs) 0 + k)) (insert_at (rank to qs) k ns)) e
