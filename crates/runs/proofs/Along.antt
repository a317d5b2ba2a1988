-- Runs of what stands at the front of some bytes, whatever that is: each end, each place, the stop and its reason, and what readers of
-- all ages find. Assumes nothing.
use Prim.Native.Nat.{ℕ, zero, suc, ◌+◌, ◌-◌, ◌*◌, ◌≤◌, ◌<◌}
use mathlib.Core.Path.{◌≡◌, refl, sym, ap, ◌∙◌}
use mathlib.Core.Bool.{Bool, true, false}
use mathlib.Core.List.{List}
use native.Mathlib.Omega.{arith}
use lib.Dec.{eqb}
use lib.ListN.{length, drop, get_or, length-drop}
use borrow.Author.Tests.{eq-eqb, ne_eqb, eqb-true, eqb-false}
use Rattle.answers.specs.declared.Refusal.{Refusal}
use Rattle.answers.specs.Tells.{refusal}
use Rattle.record.specs.declared.ResTableConfig.{ResTableConfig}
use Rattle.record.specs.Ages.{is_age}
use Rattle.record.specs.Blank.{blank_record}
use Rattle.reading.proofs.Whole.{age_known, age_unknown}
use Rattle.runs.specs.declared.Stop.{Stop}
use Rattle.std.specs.Prelude.{Result, Ok, Err}
use Rattle.runs.specs.Fronts.{StepOutcome, front_in, offsets_in, stop_in, stop_tells, stop_at, step_by, finds, found, finds_in, stands_in}
use Rattle.runs.specs.Runs.{most, step_in, step_stays}
use Rattle.runs.proofs.Fronts.{Stopped, Whole, Within, Walked, goes_on, stops_in, few_in, each_in, stop_is, finds_in_lem, stands_in_lem, step_takes, step_stops, step_none}

-- two fronts are told apart by what they take
bytes_of : Result ℕ Stop → ℕ
bytes_of (Ok n) = suc n
bytes_of (Err stop) = zero

pub takes_one : (m n : ℕ) → ◌≡◌ {A = Result ℕ Stop} (Ok m) (Ok n) → m ≡ n
unfolding bytes_of
takes_one m n e = let z = ap bytes_of e in omega arith

pub not_both : (stop : Stop) (n : ℕ) → ◌≡◌ {A = Result ℕ Stop} (Err stop) (Ok n) → ⊥
unfolding bytes_of
not_both stop n e = let z = ap bytes_of e in omega arith

-- what stands takes 16 bytes or more, and all of them are there
abbrev pub Fits : (List ℕ → Result ℕ Stop) → Type 0
Fits here = (t : List ℕ) (n : ℕ) → here t ≡ Ok n → (16 ≤ n) × (n ≤ length t)

-- a run of s: what stands at the front of some bytes, and so at each offset of s
pub record Run (s : List ℕ) : Type 0 where
  pub here : List ℕ → Result ℕ Stop
  pub front : ℕ → Result ℕ Stop
  pub is : (p : ℕ) → front p ≡ front_in here s p
  pub fits : Fits here

module _ {s : List ℕ} (run : Run s) where
  -- the exact end
  pub at_end : (p : ℕ) → p ≡ length s → run.front p ≡ Err Stop.Ended
  at_end p e = run.is p ∙ rw (eq-eqb p (length s) e)

  -- elsewhere it goes by the bytes from the offset on
  pub inside : (p : ℕ) → (p ≡ length s → ⊥) → run.front p ≡ run.here (drop p s)
  inside p h = run.is p ∙ rw (ne_eqb p (length s) h)

  -- what holds of the exact end, and of what stands elsewhere, holds of each offset
  pub by_place : (P : Result ℕ Stop → Type 0) (p : ℕ) → P (Err Stop.Ended) → P (run.here (drop p s)) → P (run.front p)
  by_place P p ended there = by (eqb p (length s)) refl where
    by : (b : Bool) → eqb p (length s) ≡ b → P (run.front p)
    by true t = rw (at_end p (eqb-true p (length s) t)) ended
    by false t = rw (inside p (eqb-false p (length s) t)) there

  -- what stands at the front of the bytes there stands there
  pub stands_at : (p n : ℕ) → run.here (drop p s) ≡ Ok n → run.front p ≡ Ok n
  stands_at p n e = let f = run.fits (drop p s) n e in inside p (λ q. omega (arith, f, length-drop p s)) ∙ e

  -- what takes n bytes stands at the front of the bytes there
  pub takes_there : (p n : ℕ) → run.front p ≡ Ok n → run.here (drop p s) ≡ Ok n
  takes_there p n = by_place (λ f. f ≡ Ok n → run.here (drop p s) ≡ Ok n) p (λ e. absurd (not_both _ n e)) (λ e. e)

  pub within : Within (length s) run.front
  within p n e = let f = run.fits (drop p s) n (takes_there p n e) in (f.0, omega (arith, f, length-drop p s))

  -- the bound of n / 16 cuts no run short
  pub stopped : (p : ℕ) → Stopped run.front (stop_in (most s) run.front p)
  stopped p = stops_in run.front (length s) within (most s) p (omega arith)

  pub few : (p : ℕ) → length (offsets_in (most s) run.front p) * 16 ≤ length s - p
  few p = few_in run.front (length s) within (most s) p

  -- at each of its offsets something stands
  pub each : (p i : ℕ) → i < length (offsets_in (most s) run.front p)
      → Whole (λ q. run.here (drop q s)) (get_or (offsets_in (most s) run.front p) i 0)
  each p i h = let w = each_in run.front (most s) p i h in record { amount = w.amount; takes = takes_there _ w.amount w.takes }

  -- a turn of the walk over what stands at its offset
  pub turn : {p q c n : ℕ} → Walked run.front (most s) p q c → run.front q ≡ Ok n → Walked run.front (most s) p (q + n) (c + 1)
  turn {p} {q} {c} {n} w e = let f = within q n e in goes_on run.front (most s) p q c n w e f.0 (omega (arith, f, w.room))

-- a reader that steps along a run at age a
pub record Steps {s : List ℕ} (run : Run s) (a : ℕ) : Type 0 where
  pub read : ℕ → ResTableConfig
  pub step : ℕ → StepOutcome ResTableConfig
  pub steps : (p : ℕ) → step p ≡ step_in run.front read a p

module _ {s : List ℕ} {run : Run s} {a : ℕ} (by : Steps run a) where
  -- 3 comes first
  pub unknown : (p : ℕ) → false ≡ is_age a → by.step p ≡ step_stays p (refusal Refusal.NotAnAge)
  unknown p h = by.steps p ∙ age_unknown a _ _ h

  -- at one of the twelve it finds what the plain walk finds, and stops where it stops, for its reason
  module _ (known : true ≡ is_age a) where
    follows : (p : ℕ) → by.step p ≡ step_by run.front blank_record by.read p
    follows p = by.steps p ∙ age_known a _ _ known

    pub finds_one : (p n : ℕ) → run.front p ≡ Ok n → by.step p ≡ finds (p + n) (by.read p)
    finds_one p n e = step_takes run.front blank_record by.read by.step follows p n e

    pub finds_none : (p : ℕ) (stop : Stop) → run.front p ≡ Err stop → by.step p ≡ step_stays p (stop_tells stop)
    finds_none p stop e = step_stops run.front blank_record by.read by.step follows p stop e

    pub finds_all : (p : ℕ) → finds_in (most s) by.step p ≡ offsets_in (most s) run.front p
    finds_all p = finds_in_lem run.front blank_record by.read by.step follows (most s) p

    pub stands_there : (p : ℕ) → stands_in (most s) by.step p ≡ stop_in (most s) run.front p
    stands_there p = stands_in_lem run.front blank_record by.read by.step follows (most s) p

    -- its last step finds nothing, and tells why the plain walk stops
    pub at_last : (p : ℕ) → found (by.step (stands_in (most s) by.step p)) ≡ false
    at_last p =
        let w = stopped run p in
        ap (λ (q : ℕ). found (by.step q)) (stands_there p)
        ∙ step_none run.front blank_record by.read by.step follows (stop_in (most s) run.front p) w.stop w.stopped

    pub reason : (p : ℕ) → (by.step (stands_in (most s) by.step p)).tells ≡ stop_tells (stop_at run.front (stop_in (most s) run.front p))
    reason p =
        let w = stopped run p in
        let q = stop_in (most s) run.front p in
        ap (λ (o : ℕ). (by.step o).tells) (stands_there p)
        ∙ ap (λ (o : StepOutcome ResTableConfig). o.tells) (finds_none q w.stop w.stopped)
        ∙ ap stop_tells (sym (stop_is run.front q w.stop w.stopped))

-- readers of two ages along one run: they find the same at the same places, and stop at the same byte for the same reason
module _ {s : List ℕ} {run : Run s} {a b : ℕ} (x : Steps run a) (y : Steps run b) (older : is_age a ≡ true) (newer : is_age b ≡ true) (p : ℕ) where
  pub same_offsets : finds_in (most s) x.step p ≡ finds_in (most s) y.step p
  same_offsets = finds_all x (sym older) p ∙ sym (finds_all y (sym newer) p)

  pub same_stop : stands_in (most s) x.step p ≡ stands_in (most s) y.step p
  same_stop = stands_there x (sym older) p ∙ sym (stands_there y (sym newer) p)

  pub stops_there : ((x.step (stands_in (most s) x.step p)).tells ≡ stop_tells (stop_at run.front (stands_in (most s) x.step p)))
      × (found (x.step (stands_in (most s) x.step p)) ≡ false)
  stops_there = (
    reason x (sym older) p ∙ ap (λ (q : ℕ). stop_tells (stop_at run.front q)) (sym (stands_there x (sym older) p)),
    at_last x (sym older) p,
  )

  pub same_reason : (x.step (stands_in (most s) x.step p)).tells ≡ (y.step (stands_in (most s) y.step p)).tells
  same_reason = reason x (sym older) p ∙ sym (reason y (sym newer) p)
