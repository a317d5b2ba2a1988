-- One more record behind a run that ends exactly, where an Equal one is in the run already. Assumes nothing.
use Prim.Native.Nat.{ℕ, zero, suc, ◌+◌, ◌-◌, ◌*◌, ◌/◌, ◌≤◌, ◌<◌}
use mathlib.Core.Path.{◌≡◌, refl, sym, ap, ◌∙◌}
use mathlib.Core.Bool.{true, false}
use mathlib.Core.List.{List, [], ◌∷◌, ◌++◌, map}
use native.Mathlib.Omega.{arith}
use native.Mathlib.Nat.{zero-add}
use lib.ListN.{length, get_or, drop, length-append, length-drop}
use lib.Seq.{drop-append-le, drop-append_seam}
use Rattle.order.specs.declared.Ordering.{Ordering}
use Rattle.order.specs.Order.{order_of}
use Rattle.order.specs.Total.{flip}
use Rattle.order.proofs.Total.{order_flip}
use Rattle.reading.specs.Reading.{ParseOutcome, plain, taken, parse_refused, parse_took}
use Rattle.reading.proofs.Limits.{aged_plain}
use Rattle.reading.proofs.Whole.{whole_took, took_says}
use Rattle.chunk.proofs.Behind.{same_taken, both_whole, behind_record}
use Rattle.keys.specs.Keys.{key_of}
use Rattle.order_at.specs.OrderAt.{plain_at, order_at}
use Rattle.rising.specs.Rising.{by_order, some_equal, count_equal, distinct, sorted}
use Rattle.rising.specs.Steps.{rank, hit}
use Rattle.rising.proofs.Alike.{Each, each_of, each_at, each_first, same_first, same_count, same_found, same_map}
use Rattle.rising.proofs.Sums.{no_new, count_last, one_higher}
use Rattle.rising.proofs.Places.{hit_within}
use Rattle.rising.proofs.Sorted.{found_distinct}
use Rattle.std.specs.Prelude.{Ok}
use Rattle.runs.specs.declared.Stop.{Stop}
use Rattle.runs.specs.Fronts.{offsets_in, stop_in}
use Rattle.runs.specs.Runs.{front_at, most, offsets_of, stop_of}
use Rattle.runs.proofs.Fronts.{takes, stops, standing, offset_next, offset_none, stop_next, stop_here}
use Rattle.runs.proofs.Along.{at_end}
use Rattle.runs.proofs.Records.{record_run, front_whole, front_says, each_whole}
use Rattle.index.specs.Index.{firsts, count_in, index_of}
use Rattle.index.proofs.Words.{ranks}
use Rattle.index.proofs.Writing.{entries_long}
use Rattle.index_laws.specs.Claims.{key_in, offset_in, OneMore, OneMoreThere}
use Rattle.index_laws.proofs.Keys.{toward_record, key_at}
use Rattle.index_laws.proofs.Holding.{rises}

-- a whole record stands at offset q of s
abbrev StandsWhole : List ℕ → ℕ → Type 0
StandsWhole s q = taken (drop q s) ≤ length (drop q s)

-- then the record there is read
at_whole : (s : List ℕ) (q : ℕ) → StandsWhole s q → plain_at s q ≡ plain (drop q s)
unfolding plain_at
at_whole s q h = ap (λ (o : ParseOutcome). o.gives) (whole_took (drop q s) parse_refused (parse_took (taken (drop q s)) (plain (drop q s))) h)

module _ (s t : List ℕ) where
  before : (q : ℕ) → StandsWhole s q → drop q (s ++ t) ≡ drop q s ++ t
  before q h = drop-append-le q s t (omega (arith, h, length-drop q s))

  still_whole : (q : ℕ) → StandsWhole s q → StandsWhole (s ++ t) q
  still_whole q h = rw (before q h) (both_whole (drop q s) t h)

  -- the record there is the same whatever stands behind s
  same_record : (q : ℕ) → StandsWhole s q → plain_at (s ++ t) q ≡ plain_at s q
  same_record q h =
      at_whole (s ++ t) q (still_whole q h)
      ∙ ap plain (before q h)
      ∙ sym (aged_plain (drop q s ++ t)) ∙ (behind_record (drop q s) t h).reads 64 ∙ aged_plain (drop q s)
      ∙ sym (at_whole s q h)

  same_front : (p n : ℕ) → front_at s p ≡ Ok n → front_at (s ++ t) p ≡ Ok n
  same_front p n e =
      let says = took_says (drop p s) n (front_says s p n e) in
      front_whole (s ++ t) p (still_whole p says.1)
      ∙ ap Ok (ap taken (before p says.1) ∙ same_taken (drop p s) t says.1 ∙ sym says.0)

  module _ (ends : stop_of s 0 ≡ length s) (one : taken t ≡ length t) where
    abbrev end : ℕ
    end = length s

    last_whole : StandsWhole (s ++ t) end
    last_whole = rw (drop-append_seam s t) (omega (arith, one))

    last_record : plain_at (s ++ t) end ≡ plain t
    last_record = at_whole (s ++ t) end last_whole ∙ ap plain (drop-append_seam s t)

    last_front : front_at (s ++ t) end ≡ Ok (length t)
    last_front = front_whole (s ++ t) end last_whole ∙ ap Ok (ap taken (drop-append_seam s t) ∙ one)

    last_one : (j : ℕ) → offsets_in (suc j) (front_at (s ++ t)) end ≡ end ∷ []
    last_one j =
        offset_next (front_at (s ++ t)) end (length t) last_front j
        ∙ ap (λ (l : List ℕ). end ∷ l) (offset_none (front_at (s ++ t)) (end + length t) Stop.Ended (at_end (record_run (s ++ t)) (end + length t) (sym (length-append s t))) j)

    -- the offsets of the run, and one more
    joined : (k j p : ℕ) → stop_in k (front_at s) p ≡ end → offsets_in (k + suc j) (front_at (s ++ t)) p ≡ offsets_in k (front_at s) p ++ (end ∷ [])
    unfolding offsets_in stop_in
    joined zero j p e =
        ap (λ (i : ℕ). offsets_in i (front_at (s ++ t)) p) (zero-add (suc j))
        ∙ ap (λ (q : ℕ). offsets_in (suc j) (front_at (s ++ t)) q) e
        ∙ last_one j
    joined (suc k) j p e =
        let f : suc k + suc j ≡ suc (k + suc j) = omega arith in
        ap (λ (i : ℕ). offsets_in i (front_at (s ++ t)) p) f
        ∙ elim (standing (front_at s) p) [
          | takes n g ↦
              offset_next (front_at (s ++ t)) p n (same_front p n g) (k + suc j)
              ∙ ap (λ (l : List ℕ). p ∷ l) (joined k j (p + n) (sym (stop_next (front_at s) p n g k) ∙ e))
              ∙ ap (λ (l : List ℕ). l ++ (end ∷ [])) (sym (offset_next (front_at s) p n g k))
          | stops stop g ↦
              let here : p ≡ end = sym (stop_here (front_at s) p stop g (suc k)) ∙ e in
              ap (λ (q : ℕ). offsets_in (suc (k + suc j)) (front_at (s ++ t)) q) here
              ∙ last_one (k + suc j)
              ∙ ap (λ (l : List ℕ). l ++ (end ∷ [])) (sym (offset_none (front_at s) p stop g (suc k)))
        ]

    more_turns : (a b : ℕ) → 16 ≤ b → (a + b) / 16 ≡ a / 16 + suc ((a + b) / 16 - a / 16 - 1)
    more_turns a b h = omega arith

    pub all_offsets : offsets_of (s ++ t) 0 ≡ offsets_of s 0 ++ (end ∷ [])
    all_offsets =
        let m : most (s ++ t) ≡ most s + suc ((end + length t) / 16 - most s - 1) =
        ap (λ (n : ℕ). n / 16) (length-append s t) ∙ more_turns end (length t) (omega (arith, one)) in
        ap (λ (k : ℕ). offsets_in k (front_at (s ++ t)) 0) m ∙ joined (most s) ((end + length t) / 16 - most s - 1) 0 ends

    abbrev u : List ℕ
    u = s ++ t

    wholes : Each (StandsWhole s) (offsets_of s 0)
    wholes = each_of (StandsWhole s) (offsets_of s 0) (each_whole s 0)

    first_wholes : Each (StandsWhole s) (firsts s)
    first_wholes = each_first (StandsWhole s) (order_at s) (offsets_of s 0) wholes

    same_order : (p q : ℕ) → StandsWhole s p → StandsWhole s q → order_at u p q ≡ order_at s p q
    unfolding order_at
    same_order p q h g = rw (same_record p h, same_record q g)

    to_last : (q : ℕ) → StandsWhole s q → order_at u q end ≡ order_of (plain_at s q) (plain t)
    unfolding order_at
    to_last q h = rw (same_record q h, last_record)

    last_to : (q : ℕ) → StandsWhole s q → order_at u end q ≡ order_of (plain t) (plain_at s q)
    unfolding order_at
    last_to q h = rw (same_record q h, last_record)

    turned : (o : Ordering) → ◌≡◌ {A = ℕ} (by_order (flip o) 0 1 0) (by_order o 0 1 0)
    turned Ordering.Less = refl
    turned Ordering.Equal = refl
    turned Ordering.Greater = refl

    -- how often a record of the run stands there then
    count_more : (q : ℕ) → StandsWhole s q → count_in u q ≡ count_in s q + by_order (order_of (plain_at s q) (plain t)) 0 1 0
    count_more q h =
        ap (count_equal (λ p. order_at u p q)) all_offsets
        ∙ count_last (λ p. order_at u p q) (offsets_of s 0) end
        ∙ ap (λ (n : ℕ). n + by_order (order_at u end q) 0 1 0) (same_count (StandsWhole s) (order_at u) (order_at s) same_order q (offsets_of s 0) h wholes)
        ∙ ap (λ (o : Ordering). count_in s q + by_order o 0 1 0) (last_to q h ∙ order_flip (plain_at s q) (plain t))
        ∙ ap (λ (n : ℕ). count_in s q + n) (turned (order_of (plain_at s q) (plain t)))

    module _ (there : some_equal (λ p. order_of (plain_at s p) (plain t)) (offsets_of s 0) ≡ true) where
      same_firsts : firsts u ≡ firsts s
      same_firsts =
          let is : some_equal (λ q. order_at u q end) (offsets_of s 0) ≡ true =
          same_found (StandsWhole s) (λ q. order_at u q end) (λ q. order_of (plain_at s q) (plain t)) to_last (λ (q : ℕ). true) (offsets_of s 0) false wholes ∙ there in
          ap (λ (ps : List ℕ). sorted (order_at u) (distinct (order_at u) ps)) all_offsets
          ∙ no_new (order_at u) (ranks u) (offsets_of s 0) end is
          ∙ same_first (StandsWhole s) (order_at u) (order_at s) same_order (offsets_of s 0) wholes

      same_keys : (i : ℕ) → i < length (firsts s) → key_in (index_of u) i ≡ key_in (index_of s) i
      same_keys i h =
          let w = each_at (StandsWhole s) (firsts s) first_wholes i h in
          key_at u (firsts u) i (rw same_firsts h)
          ∙ ap (λ (qs : List ℕ). key_of (plain_at u (get_or qs i 0))) same_firsts
          ∙ ap key_of (same_record (offset_in s i) w)
          ∙ sym (key_at s (firsts s) i h)

      pub one_more : OneMore s t
      one_more =
          let to : ℕ → Ordering = λ q. order_of (plain_at s q) (plain t) in
          let h : hit to (firsts s) ≡ true = found_distinct (order_at s) (ranks s) (offsets_of s 0) (toward_record s (plain t)) (λ q. true) false ∙ there in
          record {
            offsets = same_firsts;
            keys = same_keys;
            place = rank to (firsts s);
            within = hit_within to (firsts s) h;
            counts =
                ap (map (count_in u)) same_firsts
                ∙ same_map (StandsWhole s) (count_in u) (λ q. count_in s q + by_order (to q) 0 1 0) count_more (firsts s) first_wholes
                ∙ one_higher (order_at s) (toward_record s (plain t)) (count_in s) (firsts s) (rises s) h;
            room = entries_long u (firsts u) ∙ ap (λ (qs : List ℕ). length qs * 76) same_firsts ∙ sym (entries_long s (firsts s));
          }

pub one_more_there : OneMoreThere
one_more_there s t ends one there = one_more s t ends one there
