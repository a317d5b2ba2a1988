-- One record of the run after the other is taken in. Assumes nothing.
use Prim.Native.Nat.{ℕ, ◌+◌, ◌*◌, ◌-◌, ◌≤◌, ◌<◌}
use mathlib.Core.Path.{◌≡◌, refl, sym, ap, ◌∙◌}
use mathlib.Core.List.{List, [], map}
use mathlib.Core.Bool.{Bool, true, false}
use native.Mathlib.Omega.{arith}
use lib.ListN.{length, take}
use Rattle.std.specs.Prelude.{Ok, Err}
use Rattle.runs.specs.declared.Stop.{Stop}
use Rattle.runs.specs.Fronts.{offsets_in}
use Rattle.runs.specs.Runs.{front_at, most, offsets_of}
use Rattle.runs.proofs.Fronts.{offset_none}
use Rattle.runs.proofs.Records.{front_within}
use Rattle.order_at.specs.OrderAt.{order_at}
use Rattle.rising.specs.Rising.{Rises}
use Rattle.rising.specs.Steps.{taken_in, risen, tallied}
use Rattle.rising.proofs.Places.{rising_among, risen_more}
use Rattle.rising.proofs.Sorted.{risen_is}
use Rattle.index.specs.Index.{firsts, count_in}
use Rattle.index.specs.Steps.{unit_of, count_step, places_in, counts_in, Fits, CanTakeIn, TakenIn, Gathered}
use Rattle.index.proofs.Words.{ranks, places_long, counts_long}
use Rattle.index.proofs.Adding.{Adding, adding_begins, adding_on, added_all, next, one_short, count_few}

-- m are held, and what is left of the run begins at offset p
pub record Gathering (s : List ℕ) (room : ℕ) (b : Bool) (held : List ℕ) (m p : ℕ) : Type 0 where
  pub most : m ≤ room
  pub long : length held ≡ 1024
  pub rising : Rises (order_at s) (places_in b (take m held))
  pub left : ℕ
  pub adding : Adding s (count_step b) (places_in b (take m held)) (counts_in b (take m held)) left p
  pub going : risen (order_at s) (places_in b (take m held)) (offsets_in left (front_at s) p) ≡ firsts s

pub gathering_begins : (s : List ℕ) (room : ℕ) (b : Bool) (held : List ℕ) → length held ≡ 1024 → Gathering s room b held 0 0
unfolding tallied
gathering_begins s room b held h =
    record {
      most = omega arith;
      long = h;
      rising = tt;
      left = Rattle.runs.specs.Runs.most s;
      adding = adding_begins s (count_step b) [] [] (λ x. refl);
      going = risen_is (order_at s) (ranks s) (offsets_of s 0);
    }

-- a count has room for one more
room_for : (b : Bool) (t l n : ℕ) → (b ≡ true → n < 4294967296) → t + count_step b ≤ count_step b * l → l * 16 ≤ n → t + count_step b < unit_of b
room_for true t l n fits e k = let f = fits refl in omega (arith, e, f)
room_for false t l n fits e k = omega (arith, e)

module _ (s : List ℕ) (room : ℕ) (b : Bool) (held : List ℕ) (m p n : ℕ) (g : Gathering s room b held m p) (takes : front_at s p ≡ Ok n) where
  abbrev rest : List ℕ
  rest = offsets_in (g.left - 1) (front_at s) (p + n)

  going_on : risen (order_at s) (taken_in (order_at s) p (places_in b (take m held))) rest ≡ firsts s
  unfolding risen
  going_on = ap (risen (order_at s) (places_in b (take m held))) (sym (next _ _ _ _ _ _ _ g.adding takes)) ∙ g.going

  module _ (enough : room ≤ 1024) where
    there : m ≤ length held
    there = omega (arith, g.most, g.long)

    -- the next one can be taken in
    pub can_take : Fits s b → CanTakeIn s p held m room b
    can_take small =
        record {
          most = g.most;
          long = omega (arith, g.long);
          fits = small;
          inside = omega (arith, front_within s p n takes);
          rising = g.rising;
          small = room_for b _ (count_in s p) (length s) small (one_short _ _ _ _ _ _ _ g.adding takes) (count_few s p);
        }

    module _ (after : List ℕ) (r : ℕ) (t : TakenIn s p held m room b after r) where
      pub gathering_on : r ≤ room → Gathering s room b after r (p + n)
      gathering_on k =
          let a = t.places k in
          let c = t.counts k in
          record {
            most = k;
            long = t.long ∙ g.long;
            rising = rw a (rising_among (order_at s) (ranks s) p (places_in b (take m held)) g.rising);
            left = g.left - 1;
            adding = rw (a, c) (adding_on _ _ _ _ _ _ _ g.adding takes (places_long b held m there ∙ sym (counts_long b held m there)));
            going = rw a going_on;
          }

      -- more than there is room for
      pub gathered_full : room < r → Gathered s room b after r
      gathered_full k =
          let a = risen_more (order_at s) (taken_in (order_at s) p (places_in b (take m held))) rest in
          let c = ap length going_on in
          record {
            all = λ l. absurd (none l);
            more = λ l. omega (arith, a, c, t.amount, k);
            places = λ l. absurd (none l);
            counts = λ l. absurd (none l);
            long = t.long ∙ g.long;
          }
        where
          none : r ≤ room → ⊥
          none l = omega (arith, k)

-- where the run stops all are gathered
pub gathered_all : (s : List ℕ) (room : ℕ) (b : Bool) (held : List ℕ) (m p : ℕ) (stop : Stop) → room ≤ 1024 → Gathering s room b held m p
    → front_at s p ≡ Err stop → Gathered s room b held m
unfolding risen
gathered_all s room b held m p stop enough g stops =
    let there : m ≤ length held = omega (arith, g.most, g.long) in
    let a : places_in b (take m held) ≡ firsts s = ap (risen (order_at s) (places_in b (take m held))) (sym (offset_none (front_at s) p stop stops g.left)) ∙ g.going in
    let l = places_long b held m there in
    let c = added_all _ _ _ _ _ _ stop g.adding stops (l ∙ sym (counts_long b held m there)) g.rising in
    record {
      all = λ h. sym l ∙ ap length a;
      more = λ h. absurd (omega (arith, g.most));
      places = λ h. a;
      counts = λ h. c ∙ ap (map (λ (q : ℕ). count_step b * count_in s q)) a;
      long = g.long;
    }
