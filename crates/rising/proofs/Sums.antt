-- The counts of the first of each kind add up to all, and one more that is there already changes one count alone. Assumes nothing.
use Prim.Native.Nat.{ℕ, suc, ◌+◌, ◌*◌}
use mathlib.Core.Path.{◌≡◌, refl, sym, ap, ◌∙◌}
use mathlib.Core.List.{List, [], ◌∷◌, ◌++◌, map}
use mathlib.Core.Bool.{Bool, true, false, cond}
use native.Mathlib.Omega.{arith}
use native.Mathlib.Nat.{zero-add, add-zero, one-mul}
use native.Mathlib.Numerals.{add-one}
use lib.ListN.{length, get_or, set}
use Rattle.laws.proofs.Tests.{clash}
use Rattle.order.specs.declared.Ordering.{Ordering}
use Rattle.rising.specs.Rising.{by_order, some_equal, count_equal, distinct, sorted, Above, Rises, Ranks, sum}
use Rattle.rising.specs.Steps.{rank, held, hit, taken_in, risen, insert_at, recount, tallied}
use Rattle.rising.proofs.Ranked.{cases, Toward, toward_place}
use Rattle.rising.proofs.Places.{among_is, rising_among}
use Rattle.rising.proofs.Held.{held_risen}
use Rattle.rising.proofs.Sorted.{risen_is}
use Rattle.rising.proofs.Counts.{ends, tallied_next, recount_length, counts_are}

-- the counts beside the places that are taken in
unfoldable counted : (ℕ → ℕ → Ordering) → List ℕ → List ℕ → List ℕ → List ℕ
counted how qs ns [] = ns
counted how qs ns (p ∷ ps) = counted how (taken_in how p qs) (recount 1 (λ q. how q p) qs ns) ps

recount_sum : (to : ℕ → Ordering) (qs ns : List ℕ) → length qs ≡ length ns → sum (recount 1 to qs ns) ≡ suc (sum ns)
unfolding recount
recount_sum to [] [] h = refl
recount_sum to [] (n ∷ ns) h = ends (sym h)
recount_sum to (q ∷ qs) [] h = ends h
recount_sum to (q ∷ qs) (n ∷ ns) h =
    cases (to q)
    (λ e. rw e (let g = recount_sum to qs ns (omega arith) in omega (arith, g)))
    (λ e. rw e (omega arith))
    (λ e. rw e (omega arith))

module _ (how : ℕ → ℕ → Ordering) (good : Ranks how) where
  counted_sum : (qs ns ps : List ℕ) → length qs ≡ length ns → sum (counted how qs ns ps) ≡ sum ns + length ps
  unfolding counted
  counted_sum qs ns [] h = omega arith
  counted_sum qs ns (p ∷ ps) h =
      let e = counted_sum (taken_in how p qs) (recount 1 (λ q. how q p) qs ns) ps (recount_length how good 1 p qs ns h) in
      let f = recount_sum (λ q. how q p) qs ns h in
      omega (arith, e, f)

  counted_is : (qs ns ps : List ℕ) (c : ℕ → ℕ) → length qs ≡ length ns → Rises how qs
      → ((x : ℕ) → tallied (λ q. how q x) qs ns + 1 * count_equal (λ q. how q x) ps ≡ c x) → counted how qs ns ps ≡ map c (risen how qs ps)
  unfolding counted risen count_equal
  counted_is qs ns [] c h r t = counts_are how good c qs ns h r (λ i k. let e = t (get_or qs i 0) in omega (arith, e))
  counted_is qs ns (p ∷ ps) c h r t =
      counted_is (taken_in how p qs) (recount 1 (λ q. how q p) qs ns) ps c (recount_length how good 1 p qs ns h) (rising_among how good p qs r)
      (λ x. tallied_next how good 1 (toward_place how good x) p (c x) qs ns ps h (t x))

  -- the counts add up
  pub counts_add : (ps : List ℕ) → sum (map (λ (q : ℕ). count_equal (λ p. how p q) ps) (sorted how (distinct how ps))) ≡ length ps
  unfolding tallied
  counts_add ps =
      let c : ℕ → ℕ = λ q. count_equal (λ p. how p q) ps in
      let e : counted how [] [] ps ≡ map c (risen how [] ps) = counted_is [] [] ps c refl tt (λ x. zero-add (1 * c x) ∙ one-mul (c x)) in
      let f : sum (counted how [] [] ps) ≡ 0 + length ps = counted_sum [] [] ps refl in
      ap (λ (l : List ℕ). sum (map c l)) (sym (risen_is how good ps)) ∙ sym (ap sum e) ∙ f ∙ zero-add (length ps)

  risen_last : (qs ps : List ℕ) (p : ℕ) → risen how qs (ps ++ (p ∷ [])) ≡ taken_in how p (risen how qs ps)
  unfolding risen
  risen_last qs [] p = refl
  risen_last qs (x ∷ ps) p = risen_last (taken_in how x qs) ps p

  -- one more that is there already is no new kind
  pub no_new : (ps : List ℕ) (p : ℕ) → some_equal (λ q. how q p) ps ≡ true → sorted how (distinct how (ps ++ (p ∷ []))) ≡ sorted how (distinct how ps)
  unfolding held
  no_new ps p there =
      let h : hit (λ q. how q p) (risen how [] ps) ≡ true =
      held_risen how (toward_place how good p) (λ (q : ℕ). true) good [] ps _ ∙ there in
      sym (risen_is how good (ps ++ (p ∷ [])))
      ∙ risen_last [] ps p
      ∙ among_is how p (risen how [] ps)
      ∙ ap (λ (b : Bool). cond b (risen how [] ps) (insert_at (rank (λ q. how q p) (risen how [] ps)) p (risen how [] ps))) h
      ∙ risen_is how good ps

-- each count is higher by one where it is Equal
pub count_last : (to : ℕ → Ordering) (ps : List ℕ) (p : ℕ) → count_equal to (ps ++ (p ∷ [])) ≡ count_equal to ps + by_order (to p) 0 1 0
unfolding count_equal
count_last to [] p = cases (to p) (λ e. rw e) (λ e. rw e) (λ e. rw e)
count_last to (q ∷ ps) p =
    cases (to q)
    (λ e. rw e (count_last to ps p))
    (λ e. rw e (let g = count_last to ps p in omega (arith, g)))
    (λ e. rw e (count_last to ps p))

-- among rising places that is one place
module _ (how : ℕ → ℕ → Ordering) {to : ℕ → Ordering} (w : Toward how to) (c : ℕ → ℕ) where
  above_none : (q : ℕ) (qs : List ℕ) → to q ≡ Ordering.Equal → Above how q qs → map (λ (x : ℕ). c x + by_order (to x) 0 1 0) qs ≡ map c qs
  above_none q [] e a = refl
  above_none q (x ∷ qs) e a = rw (w.past q x a.0 e, above_none q qs e a.1) (ap (λ (n : ℕ). n ∷ map c qs) (add-zero (c x)))

  pub one_higher : (qs : List ℕ) → Rises how qs → hit to qs ≡ true
      → map (λ (q : ℕ). c q + by_order (to q) 0 1 0) qs ≡ set (map c qs) (rank to qs) (suc (c (get_or qs (rank to qs) 0)))
  unfolding held rank
  one_higher [] r h = let z : ◌≡◌ {A = ℕ} 0 1 = cc in clash z
  one_higher (q ∷ qs) r h =
      cases (to q)
      (λ e. rw e (both (add-zero (c q)) (one_higher qs r.1 (rw e at h))))
      (λ e. rw e (both (add-one (c q)) (above_none q qs e r.0)))
      (λ e. let g : false ≡ true = rw e at h in let z : ◌≡◌ {A = ℕ} 0 1 = cc in clash z)
    where
      both : {x y : ℕ} {l k : List ℕ} → x ≡ y → l ≡ k → x ∷ l ≡ y ∷ k
      both e f = cc
