-- One record of the run after the other is counted in its entry. Assumes nothing.
use Prim.Native.Nat.{ℕ, ◌+◌, ◌*◌, ◌-◌, ◌%◌, ◌≤◌, ◌<◌}
use mathlib.Core.Path.{◌≡◌, sym, ap, ◌∙◌}
use mathlib.Core.List.{List, ◌++◌}
use mathlib.Core.Bool.{true, false}
use native.Mathlib.Omega.{arith}
use native.Mathlib.Nat.{one-mul}
use lib.ListN.{length, get_or, take, drop, set, length-append, length-set, take-append-drop}
use Rattle.record.specs.Table.{part, le}
use Rattle.order.specs.declared.Ordering.{Ordering}
use Rattle.std.specs.Prelude.{Result, Ok, Err, is_ok}
use Rattle.runs.specs.declared.Stop.{Stop}
use Rattle.runs.specs.Runs.{front_at, most, offsets_of}
use Rattle.order_at.specs.OrderAt.{order_at}
use Rattle.rising.specs.Rising.{Rises}
use Rattle.rising.specs.Steps.{hit, recount, tallied}
use Rattle.rising.proofs.Ranked.{toward_place}
use Rattle.rising.proofs.Places.{among_hit, hit_within}
use Rattle.rising.proofs.Counts.{recount_hit, tallied_hit, tallied_none, some_counted}
use Rattle.rising.proofs.Sorted.{rising_distinct, found_distinct}
use Rattle.index.specs.Index.{firsts, count_in, index_of}
use Rattle.index.specs.Steps.{counts_in, SeatAmong, Uncounted, entries_with, one_more_at, seat_of}
use Rattle.index.proofs.Words.{ranks, places_long, counts_long}
use Rattle.index.proofs.Adding.{Adding, adding_begins, adding_on, added_all, one_short, count_few}
use Rattle.index.proofs.Amounts.{count_says, count_adds}
use Rattle.index.proofs.Writing.{with_long, with_are}

-- the entries have the counts ns, and what is left of the run begins at offset p
pub record Recounting (s rest out : List ℕ) (p : ℕ) : Type 0 where
  pub left : ℕ
  pub ns : List ℕ
  pub beside : length (firsts s) ≡ length ns
  pub holds : out ≡ entries_with s (firsts s) ns ++ rest
  pub adding : Adding s 1 (firsts s) ns left p

pub recounting_begins : (s held : List ℕ) (m : ℕ) (out : List ℕ) → Uncounted s held m out → Recounting s (drop (length (index_of s)) out) out 0
recounting_begins s held m out u =
    let ns = counts_in false (take m held) in
    let rest = drop (length (index_of s)) out in
    record {
      left = most s;
      ns = ns;
      beside = ap length (sym u.places) ∙ places_long false held m u.long ∙ sym (counts_long false held m u.long);
      holds =
          sym (take-append-drop (length (index_of s)) out)
          ∙ ap (λ (l : List ℕ). l ++ rest) u.front
          ∙ ap (λ (qs : List ℕ). entries_with s qs ns ++ rest) u.places;
      adding = adding_begins s 1 (firsts s) ns (λ x. tallied_none _ (λ w. w % 1) (λ w. omega arith) (firsts s) (take m held));
    }

-- the buffer keeps its length
pub as_long : (s rest out : List ℕ) (p : ℕ) → Recounting s rest out p → length out ≡ length (firsts s) * 76 + length rest
as_long s rest out p g =
    ap length g.holds
    ∙ length-append (entries_with s (firsts s) g.ns) rest
    ∙ ap (λ (i : ℕ). i + length rest) (with_long s (firsts s) g.ns g.beside)

-- the distinct records rise
pub firsts_rise : (s : List ℕ) → Rises (order_at s) (firsts s)
firsts_rise s = rising_distinct (order_at s) (ranks s) (offsets_of s 0)

module _ (s rest out : List ℕ) (p n : ℕ) (g : Recounting s rest out p) (takes : front_at s p ≡ Ok n) (r : Result ℕ ℕ)
    (sought : SeatAmong s p (firsts s) r) where
  abbrev seat : ℕ
  seat = seat_of r

  abbrev to : ℕ → Ordering
  to q = order_at s q p

  short : tallied to (firsts s) g.ns + 1 ≤ 1 * count_in s p
  short = one_short _ _ _ _ _ _ _ g.adding takes

  -- the record stands in the run, so one that is Equal stands among the distinct ones
  hits : hit to (firsts s) ≡ true
  hits =
      found_distinct (order_at s) (ranks s) (offsets_of s 0) (toward_place (order_at s) (ranks s) p) (λ q. true) false
      ∙ some_counted to (offsets_of s 0) (omega (arith, short))

  -- so it is met
  pub is_met : is_ok r ≡ true
  is_met = sought.met ∙ hits

  within : seat < length (firsts s)
  within = omega (arith, hit_within to (firsts s) hits, sought.at)

  -- its count stands in the buffer
  pub reaches : 76 * seat + 76 ≤ length out
  reaches = omega (arith, as_long s rest out p g, within)

  -- it is below what the run has
  below : length s < 18446744073709551616 → get_or g.ns seat 0 < 18446744073709551615
  below h =
      let e : tallied to (firsts s) g.ns ≡ get_or g.ns seat 0 = tallied_hit to (firsts s) g.ns g.beside hits ∙ ap (λ (i : ℕ). get_or g.ns i 0) (sym sought.at) in
      omega (arith, e, short, count_few s p)

  module _ (fits : length s < 18446744073709551616) where
    low : get_or g.ns seat 0 < 18446744073709551616
    low = omega (arith, below fits)

    pub has_room : le (part out (76 * seat + 68) 8) < 18446744073709551615
    has_room =
        let e = count_says s (firsts s) g.ns rest seat g.beside within low in
        rw (g.holds, e) (below fits)

    pub recounting_on : Recounting s rest (one_more_at out (76 * seat + 68)) (p + n)
    recounting_on =
        let same = among_hit (order_at s) p (firsts s) hits in
        let more : recount 1 to (firsts s) g.ns ≡ set g.ns seat (get_or g.ns seat 0 + 1) =
        recount_hit 1 to (firsts s) g.ns g.beside hits ∙ ap (λ (i : ℕ). set g.ns i (get_or g.ns i 0 + 1)) (sym sought.at) in
        record {
          left = g.left - 1;
          ns = set g.ns seat (get_or g.ns seat 0 + 1);
          beside = g.beside ∙ sym (length-set g.ns seat (get_or g.ns seat 0 + 1));
          holds = ap (λ (l : List ℕ). one_more_at l (76 * seat + 68)) g.holds ∙ count_adds s (firsts s) g.ns rest seat g.beside within low;
          adding = rw (same, more) at (adding_on _ _ _ _ _ _ _ g.adding takes g.beside);
        }

-- where the run stops it is the index
pub recounted_all : (s rest out : List ℕ) (p : ℕ) (stop : Stop) → Recounting s rest out p → front_at s p ≡ Err stop → out ≡ index_of s ++ rest
recounted_all s rest out p stop g stops =
    let c = added_all _ _ _ _ _ _ stop g.adding stops g.beside (firsts_rise s) in
    g.holds
    ∙ ap (λ (l : List ℕ). entries_with s (firsts s) l ++ rest) c
    ∙ ap (λ (l : List ℕ). l ++ rest) (with_are s (λ q. 1 * count_in s q) (λ q. one-mul (count_in s q)) (firsts s))
