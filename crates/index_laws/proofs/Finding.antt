-- Finding a record in the index of a run tells whether the run has an Equal one. Assumes nothing.
use Prim.Native.Nat.{ℕ, ◌/◌, ◌<◌}
use mathlib.Core.Path.{◌≡◌, refl, sym, ap, ◌∙◌}
use mathlib.Core.Bool.{true, false}
use mathlib.Core.List.{List}
use native.Mathlib.Omega.{arith}
use lib.ListN.{length}
use borrow.Author.Tests.{lt-ltb, le-ltb}
use Rattle.std.specs.Prelude.{None}
use Rattle.laws.specs.Below.{least_below}
use Rattle.laws.proofs.Least.{Least, least_is, least_none}
use Rattle.laws.proofs.Tests.{clash}
use Rattle.record.specs.Table.{Bytes}
use Rattle.record.specs.declared.ResTableConfig.{ResTableConfig}
use Rattle.order.specs.declared.Ordering.{Ordering}
use Rattle.order.specs.Order.{agree, order_of}
use Rattle.order.proofs.Lex.{is_equal}
use Rattle.order.proofs.Total.{eq_cmp}
use Rattle.keys.specs.Keys.{key_of, Sound}
use Rattle.keys.proofs.KeyOrder.{key_equal}
use Rattle.order_at.specs.OrderAt.{plain_at, order_at}
use Rattle.rising.specs.Rising.{by_order, some_equal}
use Rattle.rising.specs.Steps.{rank, hit}
use Rattle.rising.proofs.Ranked.{cases}
use Rattle.rising.proofs.Places.{rank_before, hit_at, hit_within}
use Rattle.rising.proofs.Bisect.{between_equal}
use Rattle.rising.proofs.Sorted.{found_distinct}
use Rattle.runs.specs.Runs.{offsets_of}
use Rattle.index.specs.Index.{firsts, index_of}
use Rattle.index.proofs.Words.{ranks}
use Rattle.index.proofs.Writing.{entries_long}
use Rattle.finding.specs.Finding.{has_key, place_of, found_at, find_of}
use Rattle.index_laws.specs.Claims.{offset_in, FoundIn, FindsExactly}
use Rattle.index_laws.proofs.Keys.{toward_record, sound_at, key_at}
use Rattle.index_laws.proofs.Holding.{rises}

module _ (s : List ℕ) (x : ResTableConfig) (bytes : Bytes s) (sound : Sound x) where
  abbrev n : ℕ
  n = length (firsts s)

  abbrev to : ℕ → Ordering
  to q = order_of (plain_at s q) x

  -- an entry has the record's key exactly where its own record is Equal
  has_key_lem : (i : ℕ) → i < n → has_key (index_of s) (key_of x) i ≡ is_equal (to (offset_in s i))
  unfolding has_key
  has_key_lem i h =
      ap (λ (k : List ℕ). agree k (key_of x)) (key_at s (firsts s) i h)
      ∙ key_equal (plain_at s (offset_in s i)) x (sound_at s bytes (offset_in s i)) sound
      ∙ eq_cmp (plain_at s (offset_in s i)) x

  -- finding goes by the place of the first that has
  found_by : {place : ℕ} → least_below n (has_key (index_of s) (key_of x)) ≡ place → find_of (index_of s) x ≡ found_at n place
  unfolding find_of place_of
  found_by {place} e =
      let m : length (index_of s) / 76 ≡ n = (let l = entries_long s (firsts s) in omega (arith, l)) in
      ap (λ (k : ℕ). found_at k (least_below k (has_key (index_of s) (key_of x)))) m ∙ ap (found_at n) e

  -- one is hit in the index where one of the run is Equal
  hits : hit to (firsts s) ≡ some_equal to (offsets_of s 0)
  hits = found_distinct (order_at s) (ranks s) (offsets_of s 0) (toward_record s x) (λ q. true) false

  is_equal_lem : (o : Ordering) → by_order o false true false ≡ true → o ≡ Ordering.Equal
  is_equal_lem Ordering.Less e = let z : ◌≡◌ {A = ℕ} 0 1 = cc in clash z
  is_equal_lem Ordering.Equal e = refl
  is_equal_lem Ordering.Greater e = let z : ◌≡◌ {A = ℕ} 0 1 = cc in clash z

  pub found_in : some_equal to (offsets_of s 0) ≡ true → FoundIn s x
  found_in there =
      let h : hit to (firsts s) ≡ true = hits ∙ there in
      let r = rank to (firsts s) in
      let inside = hit_within to (firsts s) h in
      let equal : to (offset_in s r) ≡ Ordering.Equal = is_equal_lem (to (offset_in s r)) (sym (hit_at to (firsts s) inside) ∙ h) in
      let least : Least (has_key (index_of s) (key_of x)) r =
      record {
        holds = has_key_lem r inside ∙ ap is_equal equal;
        first = λ i k. has_key_lem i (omega arith) ∙ ap is_equal (rank_before to i (firsts s) k);
      } in
      record {
        place = r;
        within = inside;
        equal = equal;
        is = found_by (least_is n (has_key (index_of s) (key_of x)) r inside least) ∙ rw (lt-ltb r n inside);
      }

  not_equal : hit to (firsts s) ≡ false → (i : ℕ) → i < n → is_equal (to (offset_in s i)) ≡ false
  not_equal h i k =
      cases (to (offset_in s i))
      (λ e. rw e)
      (λ e.
      let g = between_equal to (firsts s) (order_at s) (toward_record s x) (rises s) i k e in
      let z : ◌≡◌ {A = ℕ} 0 1 = (let f : true ≡ false = g.1 ∙ h in cc) in
      clash z)
      (λ e. rw e)

  pub found_none : some_equal to (offsets_of s 0) ≡ false → find_of (index_of s) x ≡ None
  found_none none =
      let h : hit to (firsts s) ≡ false = hits ∙ none in
      found_by (least_none n (has_key (index_of s) (key_of x)) (λ i k. has_key_lem i k ∙ not_equal h i k)) ∙ rw (le-ltb n n (omega arith))

pub finds_exactly : FindsExactly
finds_exactly s x bytes sound = record { some = found_in s x bytes sound; none = found_none s x bytes sound }
