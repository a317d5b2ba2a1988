-- A run of records: what stands at an offset, and what its reader finds. Assumes nothing.
use Prim.Native.Nat.{ℕ, ◌+◌, ◌≤◌, ◌<◌}
use mathlib.Core.Path.{◌≡◌, refl, sym, ap, ◌∙◌}
use mathlib.Core.Bool.{true, false}
use mathlib.Core.List.{List}
use native.Mathlib.Omega.{arith}
use lib.Dec.{lit≤}
use lib.ListN.{length, drop, get_or}
use Rattle.answers.specs.declared.Refusal.{Refusal}
use Rattle.std.specs.Prelude.{Result, Ok, Err}
use Rattle.answers.specs.declared.Told.{Told}
use Rattle.answers.specs.Tells.{success, refusal, told_of}
use Rattle.record.specs.Ages.{is_age}
use Rattle.reading.specs.Reading.{take_of, taken, aged}
use Rattle.reading.proofs.CutExactly.{carried_most}
use Rattle.reading.proofs.Whole.{taking, takes, refuses, took_says, took_whole, refused_whole, whole_took}
use Rattle.runs.specs.declared.Stop.{Stop}
use Rattle.runs.specs.Fronts.{by_front, front_of, front_in, stop_tells, stop_at, finds}
use Rattle.runs.specs.Runs.{record_front, front_at, offsets_of, stop_of, step_in, step_of, step_stays, finds_of, stands_of}
use Rattle.runs.specs.Stops.{NotWhole, WholeRecords}
use Rattle.runs.proofs.Fronts.{Stopped}
use Rattle.runs.proofs.Along.{takes_one, not_both, Fits, Run, inside, stands_at, by_place, takes_there, within, stopped, few, each, Steps, unknown, finds_one, finds_none, finds_all, stands_there}

-- what the answer of `take` says of the front
whole_front : (t : List ℕ) (answer : Result ℕ Refusal) → told_of answer ≡ take_of t → record_front t ≡ front_of answer
whole_front t (Ok n) e = took_whole t _ _ n e ∙ ap Ok (sym (took_says t n e).0)
whole_front t (Err why) e = refused_whole t _ _ why e

-- what takes n bytes is a whole record
record_says : (t : List ℕ) (n : ℕ) → record_front t ≡ Ok n → success n ≡ take_of t
record_says t n e =
    elim (taking t) [
      | takes m h ↦ ap success (takes_one n m (sym e ∙ whole_front t (Ok m) h)) ∙ h
      | refuses why h ↦ absurd (not_both _ n (sym (whole_front t (Err why) h) ∙ e))
    ]

pub record_fits : Fits record_front
record_fits t n e = let w = took_says t n (record_says t n e) in (omega (arith, w), omega (arith, w))

-- a run of records is a run of what stands at the front
pub front_is : (s : List ℕ) (p : ℕ) → front_at s p ≡ front_in record_front s p
unfolding front_at
front_is s p = refl

abbrev pub record_run : (s : List ℕ) → Run s
record_run s = record { here = record_front; front = front_at s; is = front_is s; fits = record_fits }

-- elsewhere than at the exact end it is what `take` answers
pub front_answered : (s : List ℕ) (p : ℕ) → (p ≡ length s → ⊥) → (answer : Result ℕ Refusal) → told_of answer ≡ take_of (drop p s) → front_at s p ≡ front_of answer
front_answered s p inner answer e = inside (record_run s) p inner ∙ whole_front (drop p s) answer e

-- a whole record, wherever it stands
pub front_whole : (s : List ℕ) (p : ℕ) → taken (drop p s) ≤ length (drop p s) → front_at s p ≡ Ok (taken (drop p s))
front_whole s p h = stands_at (record_run s) p _ (whole_took (drop p s) _ _ h)

-- what takes n bytes is a whole record
pub front_says : (s : List ℕ) (p n : ℕ) → front_at s p ≡ Ok n → success n ≡ take_of (drop p s)
front_says s p n e = record_says (drop p s) n (takes_there (record_run s) p n e)

-- it is T, and it is there
pub front_fits : (s : List ℕ) (p n : ℕ) → front_at s p ≡ Ok n
    → (n ≡ taken (drop p s)) × (taken (drop p s) ≤ length (drop p s)) × (16 ≤ n) × (p + n ≤ length s)
front_fits s p n e =
    let t = took_says (drop p s) n (front_says s p n e) in
    let w = within (record_run s) p n e in
    (t.0, t.1, w.0, w.1)

pub front_within : (s : List ℕ) (p n : ℕ) → front_at s p ≡ Ok n → (16 ≤ n) × (p + n ≤ length s)
front_within s = within (record_run s)

-- where a run stops no whole record stands
pub front_none : (s : List ℕ) (p : ℕ) (stop : Stop) → front_at s p ≡ Err stop → NotWhole (drop p s)
front_none s p stop e =
    elim (taking (drop p s)) [
      | takes n h ↦ absurd (let t = took_says (drop p s) n h in not_both stop _ (sym e ∙ front_whole s p t.1))
      | refuses why h ↦ record { why = why; refused = h }
    ]

-- what a stop carries is a row, or nothing
pub stop_carries : (s : List ℕ) (p : ℕ) → (stop_tells (stop_at (front_at s) p)).carried ≤ 14
stop_carries s p = by_place (record_run s) (λ f. (stop_tells (by_front (λ stop. stop) (λ n. Stop.Ended) f)).carried ≤ 14) p (lit≤ tt) there where
  there : (stop_tells (by_front (λ stop. stop) (λ n. Stop.Ended) (record_front (drop p s)))).carried ≤ 14
  there =
      elim (taking (drop p s)) [
        | takes m h ↦ rw (whole_front (drop p s) (Ok m) h) (lit≤ tt)
        | refuses why h ↦
            rw (whole_front (drop p s) (Err why) h) (let e = ap (λ (told : Told). told.carried) h in omega (arith, carried_most (drop p s)))
      ]

-- the bound of n / 16 records cuts no run short
pub run_stopped : (s : List ℕ) (p : ℕ) → Stopped (front_at s) (stop_of s p)
run_stopped s p = stopped (record_run s) p

pub each_whole : (s : List ℕ) (p i : ℕ) → i < length (offsets_of s p) → taken (drop (get_or (offsets_of s p) i 0) s) ≤ length (drop (get_or (offsets_of s p) i 0) s)
each_whole s p i h =
    let w = each (record_run s) p i h in
    let q = get_or (offsets_of s p) i 0 in
    (took_says (drop q s) w.amount (record_says (drop q s) w.amount w.takes)).1

-- the records of a run
pub whole_records : (s : List ℕ) (p : ℕ) → WholeRecords s p
whole_records s p =
    let w = run_stopped s p in
    record { each = each_whole s p; stop = front_none s (stop_of s p) w.stop w.stopped; few = few (record_run s) p }

-- its reader at age a
pub step_is : (a : ℕ) (s : List ℕ) (p : ℕ) → step_of a s p ≡ step_in (front_at s) (λ q. aged a (drop q s)) a p
unfolding step_of
step_is a s p = refl

abbrev pub record_steps : (a : ℕ) (s : List ℕ) → Steps (record_run s) a
record_steps a s = record { read = λ q. aged a (drop q s); step = step_of a s; steps = step_is a s }

pub step_unknown : (a : ℕ) (s : List ℕ) (p : ℕ) → false ≡ is_age a → step_of a s p ≡ step_stays p (refusal Refusal.NotAnAge)
step_unknown a s p h = unknown (record_steps a s) p h

module _ (a : ℕ) (s : List ℕ) (known : true ≡ is_age a) where
  pub step_found : (p n : ℕ) → front_at s p ≡ Ok n → step_of a s p ≡ finds (p + n) (aged a (drop p s))
  step_found p n e = finds_one (record_steps a s) known p n e

  pub step_stopped : (p : ℕ) (stop : Stop) → front_at s p ≡ Err stop → step_of a s p ≡ step_stays p (stop_tells stop)
  step_stopped p stop e = finds_none (record_steps a s) known p stop e

  pub finds_are : (p : ℕ) → finds_of a s p ≡ offsets_of s p
  finds_are p = finds_all (record_steps a s) known p

  pub stands_are : (p : ℕ) → stands_of a s p ≡ stop_of s p
  stands_are p = stands_there (record_steps a s) known p
