-- Runs over any front: one turn at a time, where a run stops, and what a reader finds that goes on where each step says.
-- Assumes nothing.
use Prim.Native.Nat.{ℕ, zero, suc, ◌+◌, ◌-◌, ◌*◌, ◌≤◌, ◌<◌}
use mathlib.Core.Path.{◌≡◌, refl, sym, ap, ◌∙◌}
use mathlib.Core.Bool.{Bool, false, cond}
use mathlib.Core.List.{List, [], ◌∷◌}
use native.Mathlib.Omega.{arith}
use native.Mathlib.Nat.{sub-zero, le_of_suc-le-suc, not-suc-le-zero}
use lib.Dec.{eqb}
use lib.ListN.{length, get_or}
use Rattle.runs.specs.declared.Stop.{Stop}
use Rattle.std.specs.Prelude.{Result, Ok, Err}
use Rattle.runs.specs.declared.RunEnd.{RunEnd}
use Rattle.runs.specs.Fronts.{StepOutcome, by_front, offsets_in, stop_in, stop_at, end_in, stop_tells, finds, stands, step_by, found, finds_in, stands_in}

-- what stands at p: something that takes n bytes, or the stop of the run
pub data Standing (front : ℕ → Result ℕ Stop) (p : ℕ) : Type 0 where
  takes : (n : ℕ) → front p ≡ Ok n → Standing front p
  stops : (stop : Stop) → front p ≡ Err stop → Standing front p

pub standing : (front : ℕ → Result ℕ Stop) (p : ℕ) → Standing front p
standing front p = by (front p) refl where
  by : (f : Result ℕ Stop) → front p ≡ f → Standing front p
  by (Ok n) e = Standing.takes n e
  by (Err stop) e = Standing.stops stop e

module _ (front : ℕ → Result ℕ Stop) where
  offset_zero : (p : ℕ) → offsets_in zero front p ≡ []
  unfolding offsets_in
  offset_zero p = refl

  stop_zero : (p : ℕ) → stop_in zero front p ≡ p
  unfolding stop_in
  stop_zero p = refl

  -- something that takes n bytes stands at p: the run goes on behind it
  module _ (p n : ℕ) (e : front p ≡ Ok n) where
    pub offset_next : (k : ℕ) → offsets_in (suc k) front p ≡ p ∷ offsets_in k front (p + n)
    unfolding offsets_in
    offset_next k = ap (by_front (λ stop. []) (λ m. p ∷ offsets_in k front (p + m))) e

    pub stop_next : (k : ℕ) → stop_in (suc k) front p ≡ stop_in k front (p + n)
    unfolding stop_in
    stop_next k = ap (by_front (λ stop. p) (λ m. stop_in k front (p + m))) e

  -- the run stops at p
  module _ (p : ℕ) (stop : Stop) (e : front p ≡ Err stop) where
    pub offset_none : (k : ℕ) → offsets_in k front p ≡ []
    unfolding offsets_in
    offset_none zero = refl
    offset_none (suc k) = ap (by_front (λ why. []) (λ m. p ∷ offsets_in k front (p + m))) e

    pub stop_here : (k : ℕ) → stop_in k front p ≡ p
    unfolding stop_in
    stop_here zero = refl
    stop_here (suc k) = ap (by_front (λ why. p) (λ m. stop_in k front (p + m))) e

    pub stop_is : stop_at front p ≡ stop
    stop_is = ap (by_front (λ why. why) (λ n. Stop.Ended)) e

-- what stands takes 16 bytes or more, and none past the end
abbrev pub Within : ℕ → (ℕ → Result ℕ Stop) → Type 0
Within end front = (p n : ℕ) → front p ≡ Ok n → (16 ≤ n) × (p + n ≤ end)

-- the run stops at p
pub record Stopped (front : ℕ → Result ℕ Stop) (p : ℕ) : Type 0 where
  pub stop : Stop
  pub stopped : front p ≡ Err stop

-- something stands at p
pub record Whole (front : ℕ → Result ℕ Stop) (p : ℕ) : Type 0 where
  pub amount : ℕ
  pub takes : front p ≡ Ok amount

module _ (front : ℕ → Result ℕ Stop) (end : ℕ) (within : Within end front) where
  stopped_at : (p q : ℕ) → p ≡ q → Stopped front q → Stopped front p
  stopped_at p q e w = record { stop = w.stop; stopped = ap front e ∙ w.stopped }

  -- k turns of 16 bytes or more lead to where fewer than 16 are left, or the run stops before
  pub stops_in : (k p : ℕ) → end < p + 16 * k + 16 → Stopped front (stop_in k front p)
  stops_in zero p h =
      stopped_at (stop_in zero front p) p (stop_zero front p) (elim (standing front p) [
        | takes n e ↦ absurd (omega (arith, within p n e))
        | stops stop e ↦ record { stop = stop; stopped = e }
      ])
  stops_in (suc k) p h =
      elim (standing front p) [
        | takes n e ↦ stopped_at (stop_in (suc k) front p) (stop_in k front (p + n)) (stop_next front p n e k) (stops_in k (p + n) (omega (arith, within p n e)))
        | stops stop e ↦ stopped_at (stop_in (suc k) front p) p (stop_here front p stop e (suc k)) (record { stop = stop; stopped = e })
      ]

  -- at most one stands in each 16 bytes
  pub few_in : (k p : ℕ) → length (offsets_in k front p) * 16 ≤ end - p
  few_in zero p = rw (offset_zero front p) (omega arith)
  few_in (suc k) p =
      elim (standing front p) [
        | takes n e ↦ rw (offset_next front p n e k) (omega (arith, few_in k (p + n), within p n e))
        | stops stop e ↦ rw (offset_none front p stop e (suc k)) (omega arith)
      ]

-- at each offset of a run something stands
module _ (front : ℕ → Result ℕ Stop) where
  first_or_later : (p i : ℕ) (l : List ℕ) → Whole front p → i < length (p ∷ l) → ((j : ℕ) → j < length l → Whole front (get_or l j 0))
      → Whole front (get_or (p ∷ l) i 0)
  first_or_later p zero l w h ih = w
  first_or_later p (suc j) l w h ih = ih j (le_of_suc-le-suc h)

  pub each_in : (k p i : ℕ) → i < length (offsets_in k front p) → Whole front (get_or (offsets_in k front p) i 0)
  each_in zero p i h = absurd (not-suc-le-zero (rw (offset_zero front p) at h))
  each_in (suc k) p i h =
      elim (standing front p) [
        | takes n e ↦ rw (offset_next front p n e k)
            (first_or_later p i (offsets_in k front (p + n)) (record { amount = n; takes = e }) (rw (offset_next front p n e k) at h) (each_in k (p + n)))
        | stops stop e ↦ absurd (not-suc-le-zero (rw (offset_none front p stop e (suc k)) at h))
      ]

-- the walk with k turns to go from p stands at q, c of them made: what is left of the run is all that is left to count
pub record Walked (front : ℕ → Result ℕ Stop) (k p q c : ℕ) : Type 0 where
  pub room : c * 16 ≤ q
  pub counted : length (offsets_in k front p) ≡ c + length (offsets_in (k - c) front q)
  pub stops : stop_in k front p ≡ stop_in (k - c) front q

-- it begins at its own offset
pub begins : (front : ℕ → Result ℕ Stop) (k p : ℕ) → Walked front k p p 0
begins front k p =
    let e : k ≡ k - 0 = sym (sub-zero k) in
    record {
      room = omega arith;
      counted = ap (λ (m : ℕ). length (offsets_in m front p)) e ∙ omega arith;
      stops = ap (λ (m : ℕ). stop_in m front p) e;
    }

-- it goes on behind what stands, while turns are left
pub goes_on : (front : ℕ → Result ℕ Stop) (k p q c n : ℕ) → Walked front k p q c → front q ≡ Ok n → 16 ≤ n → c < k
    → Walked front k p (q + n) (c + 1)
goes_on front k p q c n w e h l =
    let g = w.room in
    let m : k - c ≡ suc (k - (c + 1)) = omega arith in
    record {
      room = omega (arith, g);
      counted =
          w.counted ∙ ap (λ (j : ℕ). c + length (offsets_in j front q)) m
          ∙ ap (λ (offsets : List ℕ). c + length offsets) (offset_next front q n e (k - (c + 1))) ∙ omega arith;
      stops = w.stops ∙ ap (λ (j : ℕ). stop_in j front q) m ∙ stop_next front q n e (k - (c + 1));
    }

same : {c c' q q' : ℕ} {s s' : Stop} → c ≡ c' → q ≡ q' → s ≡ s'
    → ◌≡◌ {A = RunEnd} (record { records = c; offset = q; stop = s }) (record { records = c'; offset = q'; stop = s' })
same e f g = cc

-- and ends where the run stops
pub arrives : (front : ℕ → Result ℕ Stop) (k p q c : ℕ) (stop : Stop) → Walked front k p q c → front q ≡ Err stop
    → record { records = c; offset = q; stop = stop } ≡ end_in k front p
arrives front k p q c stop w e =
    let at : q ≡ stop_in k front p = sym (w.stops ∙ stop_here front q stop e (k - c)) in
    same (sym (w.counted ∙ ap (λ (l : List ℕ). c + length l) (offset_none front q stop e (k - c)) ∙ omega arith)) at
    (sym (stop_is front q stop e) ∙ ap (stop_at front) at)

-- a reader whose steps go by a front
module _ {Given : Type 0} (front : ℕ → Result ℕ Stop) (nothing : Given) (read : ℕ → Given) (step : ℕ → StepOutcome Given) (follows : (p : ℕ) → step p ≡ step_by front nothing read p) where
  pub step_takes : (p n : ℕ) → front p ≡ Ok n → step p ≡ finds (p + n) (read p)
  step_takes p n e = follows p ∙ ap (by_front (λ stop. stands nothing p (stop_tells stop)) (λ m. finds (p + m) (read p))) e

  pub step_stops : (p : ℕ) (stop : Stop) → front p ≡ Err stop → step p ≡ stands nothing p (stop_tells stop)
  step_stops p stop e = follows p ∙ ap (by_front (λ why. stands nothing p (stop_tells why)) (λ m. finds (p + m) (read p))) e

  no_record : (stop : Stop) → eqb (stop_tells stop).amount 1 ≡ false
  no_record Stop.Ended = refl
  no_record (Stop.Refused why) = refl

  -- where the run stops nothing is found
  pub step_none : (p : ℕ) (stop : Stop) → front p ≡ Err stop → found (step p) ≡ false
  step_none p stop e = ap found (step_stops p stop e) ∙ no_record stop

  -- it finds what stands in the run
  pub finds_in_lem : (k p : ℕ) → finds_in k step p ≡ offsets_in k front p
  unfolding finds_in offsets_in
  finds_in_lem zero p = refl
  finds_in_lem (suc k) p =
      elim (standing front p) [
        | takes n e ↦
            ap (λ (o : StepOutcome Given). cond (found o) (p ∷ finds_in k step o.next) []) (step_takes p n e)
            ∙ ap (λ (l : List ℕ). p ∷ l) (finds_in_lem k (p + n)) ∙ sym (offset_next front p n e k)
        | stops stop e ↦
            ap (λ (b : Bool). cond b (p ∷ finds_in k step (step p).next) []) (step_none p stop e) ∙ sym (offset_none front p stop e (suc k))
      ]

  -- and stands where it stops
  pub stands_in_lem : (k p : ℕ) → stands_in k step p ≡ stop_in k front p
  unfolding stands_in stop_in
  stands_in_lem zero p = refl
  stands_in_lem (suc k) p =
      elim (standing front p) [
        | takes n e ↦
            ap (λ (o : StepOutcome Given). cond (found o) (stands_in k step o.next) p) (step_takes p n e)
            ∙ stands_in_lem k (p + n) ∙ sym (stop_next front p n e k)
        | stops stop e ↦
            ap (λ (b : Bool). cond b (stands_in k step (step p).next) p) (step_none p stop e) ∙ sym (stop_here front p stop e (suc k))
      ]
