-- One offset is taken into the held numbers. Assumes nothing.
use Prim.Native.Nat.{ℕ, suc, ◌+◌, ◌*◌, ◌-◌, ◌%◌, ◌≤◌, ◌<◌}
use mathlib.Core.Path.{◌≡◌, refl, sym, ap, ◌∙◌}
use mathlib.Core.List.{List}
use mathlib.Core.Bool.{Bool, true, false, cond}
use native.Mathlib.Omega.{arith}
use lib.ListN.{length, get_or, take, set, length-set}
use lib.Seq.{get_or-take, length-take-le, take-set-lt}
use Rattle.std.specs.Prelude.{Result, is_ok}
use Rattle.order.specs.declared.Ordering.{Ordering}
use Rattle.order_at.specs.OrderAt.{order_at}
use Rattle.rising.specs.Steps.{rank, hit, taken_in, insert_at, recount, tallied}
use Rattle.rising.proofs.Places.{among_is, among_hit, rank_most, hit_within, insert_length}
use Rattle.rising.proofs.Counts.{recount_is, recount_hit, tallied_hit}
use Rattle.index.specs.Steps.{unit_of, count_step, places_in, counts_in, carry, SeatAmong, CanTakeIn, TakenIn, seat_of}
use Rattle.index.proofs.Words.{count_at, places_long, counts_long, places_more, counts_more, places_new, counts_new, more_fits}
use Rattle.index.proofs.Carry.{carry_take, carry_length}

module _ (s : List ℕ) (p : ℕ) (held : List ℕ) (m room : ℕ) (b : Bool) (h : CanTakeIn s p held m room b) (r : Result ℕ ℕ)
    (sought : SeatAmong s p (places_in b (take m held)) r) where
  abbrev seat : ℕ
  seat = seat_of r

  abbrev qs : List ℕ
  qs = places_in b (take m held)

  abbrev ns : List ℕ
  ns = counts_in b (take m held)

  abbrev to : ℕ → Ordering
  to q = order_at s q p

  there : m ≤ length held
  there = omega (arith, h.most, h.long)

  long : length (take m held) ≡ m
  long = length-take-le m held there

  many : length qs ≡ m
  many = places_long b held m there

  beside : length qs ≡ length ns
  beside = many ∙ sym (counts_long b held m there)

  -- where it is sought is within
  pub at_most : seat ≤ m
  at_most = omega (arith, rank_most to qs, sought.at, many)

  -- where an Equal one is held it is counted
  module _ (met : is_ok r ≡ true) where
    hits : hit to qs ≡ true
    hits = sym sought.met ∙ met

    pub met_within : seat < m
    met_within = omega (arith, hit_within to qs hits, sought.at, many)

    -- the count has room
    met_room : get_or held seat 0 % unit_of b + count_step b < unit_of b
    met_room =
        let e : tallied to qs ns ≡ get_or held seat 0 % unit_of b =
        tallied_hit to qs ns beside hits ∙ ap (λ (i : ℕ). get_or ns i 0) (sym sought.at) ∙ count_at b held m there seat met_within in
        rw e at h.small

    pub met_fits : get_or held seat 0 < 18446744073709551616 → get_or held seat 0 + count_step b < 18446744073709551616
    met_fits g = more_fits b (get_or held seat 0) g met_room

    pub taken_met : TakenIn s p held m room b (set held seat (get_or held seat 0 + count_step b)) m
    taken_met =
        let v = get_or held seat 0 in
        let own : v ≡ get_or (take m held) seat 0 = sym (get_or-take m held seat 0 met_within) in
        let inner : take m (set held seat (v + count_step b)) ≡ set (take m held) seat (v + count_step b) = take-set-lt m held seat (v + count_step b) met_within in
        let in-front : seat < length (take m held) = omega (arith, met_within, long) in
        let same = among_hit (order_at s) p qs hits in
        let more : recount (count_step b) to qs ns ≡ set ns seat (get_or ns seat 0 + count_step b) =
        recount_hit (count_step b) to qs ns beside hits ∙ ap (λ (i : ℕ). set ns i (get_or ns i 0 + count_step b)) (sym sought.at) in
        record {
          amount = sym (ap length same ∙ many);
          places = λ k. ap (places_in b) inner ∙ places_more b (take m held) seat v own met_room in-front ∙ sym same;
          counts = λ k. ap (counts_in b) inner ∙ counts_more b (take m held) seat v own met_room in-front ∙ sym more;
          long = length-set held seat (v + count_step b);
        }

  -- where none is, it is put in, if there is room
  module _ (missed : is_ok r ≡ false) where
    misses : hit to qs ≡ false
    misses = sym sought.met ∙ missed

    is_put : taken_in (order_at s) p qs ≡ insert_at seat p qs
    is_put =
        among_is (order_at s) p qs
        ∙ ap (λ (y : Bool). cond y qs (insert_at (rank to qs) p qs)) misses
        ∙ ap (λ (i : ℕ). insert_at i p qs) (sym sought.at)

    is_counted : recount (count_step b) to qs ns ≡ insert_at seat (count_step b) ns
    is_counted =
        recount_is (count_step b) to qs ns beside
        ∙ ap (λ (y : Bool). cond y (set ns (rank to qs) (get_or ns (rank to qs) 0 + count_step b)) (insert_at (rank to qs) (count_step b) ns)) misses
        ∙ ap (λ (i : ℕ). insert_at i (count_step b) ns) (sym sought.at)

    one_more : m + 1 ≡ length (taken_in (order_at s) p qs)
    one_more = let l = insert_length seat p qs in let f = ap length is_put in omega (arith, l, f, many)

    pub taken_new : {x : ℕ} {after : List ℕ} → m < room → x ≡ p * unit_of b + count_step b → after ≡ carry held seat x (m + 1 - seat)
        → TakenIn s p held m room b after (m + 1)
    taken_new {x} {after} k e f =
        let g : m + 1 ≡ suc m = omega arith in
        let l : m + 1 - seat ≡ suc (m - seat) = omega (arith, at_most) in
        let put : take (m + 1) after ≡ insert_at seat (p * unit_of b + count_step b) (take m held) =
        ap (take (m + 1)) f
        ∙ ap (λ (i : ℕ). take i (carry held seat x (m + 1 - seat))) g
        ∙ ap (λ (i : ℕ). take (suc m) (carry held seat x i)) l
        ∙ carry_take held seat x m (m - seat) (omega (arith, at_most)) (omega (arith, h.long))
        ∙ ap (λ (w : ℕ). insert_at seat w (take m held)) e in
        record {
          amount = one_more;
          places = λ y. ap (places_in b) put ∙ places_new b (take m held) seat p ∙ sym is_put;
          counts = λ y. ap (counts_in b) put ∙ counts_new b (take m held) seat p ∙ sym is_counted;
          long = ap length f ∙ carry_length held seat x (m + 1 - seat);
        }

    pub taken_none : room ≤ m → TakenIn s p held m room b held (m + 1)
    taken_none k =
        record { amount = one_more; places = λ y. absurd (none y); counts = λ y. absurd (none y); long = refl }
      where
        none : m + 1 ≤ room → ⊥
        none y = omega (arith, k)
