-- When a step along a run is refused, and with which number. Assumes nothing.
use Prim.Native.Nat.{ℕ, ◌+◌}
use mathlib.Core.Path.{◌≡◌, refl, sym, ap, ◌∙◌}
use mathlib.Core.Bool.{Bool, true, false, cond}
use mathlib.Core.List.{List, [], ◌∷◌, map}
use lib.Dec.{eqb}
use lib.ListN.{length, drop}
use Rattle.answers.specs.declared.Refusal.{Refusal}
use Rattle.answers.specs.Tells.{success, refusal}
use Rattle.answers.specs.Demand1.{Condition, unless, Exactly}
use Rattle.answers.proofs.Exactly.{Goes, by_row, none_left, row_exactly, row_map}
use Rattle.record.specs.declared.ResTableConfig.{ResTableConfig}
use Rattle.reading.specs.Reading.{taken}
use Rattle.reading.specs.Demand1.{fewer_than16, fewer_than_size, not_an_age}
use Rattle.reading.proofs.Exactly.{whole_row, age_row}
use Rattle.runs.specs.declared.Stop.{Stop}
use Rattle.std.specs.Prelude.{Result, Ok, Err}
use Rattle.runs.specs.Fronts.{StepOutcome, by_front, stop_tells, finds}
use Rattle.runs.specs.Runs.{step_stays}
use Rattle.runs.specs.Demand1.{StepRefuses}
use Rattle.runs.proofs.Along.{Run, Steps}
use Rattle.runs.proofs.Records.{record_run, record_steps}

-- a row that counts only where a test fails
unless_none : {A : Type 0} (row : List Condition) (refuse : Refusal → A) (give : A) → by_row (map (unless true) row) refuse give ≡ give
unless_none [] refuse give = refl
unless_none (c ∷ row) refuse give = unless_none row refuse give

unless_same : {A : Type 0} (row : List Condition) (refuse : Refusal → A) (give : A) → by_row (map (unless false) row) refuse give ≡ by_row row refuse give
unless_same [] refuse give = refl
unless_same (c ∷ row) refuse give = ap (cond c.holds (refuse c.why)) (unless_same row refuse give)

-- what stands at the front goes by a row of conditions, and where none holds the next one is far behind
module _ {s : List ℕ} (run : Run s) (row : List ℕ → List Condition) (far : List ℕ → ℕ)
    (goes : (t : List ℕ) → Goes (row t) (λ why. Err (Stop.Refused why)) (Ok (far t)) (run.here t))
    {a : ℕ} (reader : Steps run a) (p : ℕ) where
  -- what a step gives by what stands
  abbrev given : Result ℕ Stop → StepOutcome ResTableConfig
  given f = by_front (λ stop. step_stays p (stop_tells stop)) (λ n. finds (p + n) (reader.read p)) f

  -- and where it isn't refused, at the exact end or elsewhere
  abbrev good : Bool → StepOutcome ResTableConfig
  good end = cond end (step_stays p (success 0)) (finds (p + far (drop p s)) (reader.read p))

  good_tells : (end : Bool) → (good end).tells.number ≡ 0
  good_tells true = refl
  good_tells false = refl

  stop_row : (end : Bool)
      → Goes (map (unless end) (row (drop p s))) (λ why. step_stays p (refusal why)) (good end) (given (cond end (Err Stop.Ended) (run.here (drop p s))))
  stop_row true = record { by = sym (unless_none (row (drop p s)) (λ why. step_stays p (refusal why)) (good true)) }
  stop_row false =
      record {
        by =
            ap given (goes (drop p s)).by ∙ row_map given (row (drop p s)) _ _
            ∙ sym (unless_same (row (drop p s)) (λ why. step_stays p (refusal why)) (good false));
      }

  -- 3; at the exact end none; then the row's
  pub along_exactly : Exactly (not_an_age a ∷ map (unless (eqb p (length s))) (row (drop p s))) (reader.step p).tells
  along_exactly =
      rw (reader.steps p, run.is p)
      (row_exactly (λ (o : StepOutcome ResTableConfig). o.tells) (λ why. step_stays p (refusal why)) (good (eqb p (length s)))
      (λ why. refl) (good_tells (eqb p (length s))) (age_row a (stop_row (eqb p (length s)))))

-- `step_at`: 3; at the exact end none; 1, 2 or 8
pub step_exactly : (a : ℕ) (s : List ℕ) (p : ℕ) → StepRefuses a s p
step_exactly a s p =
    along_exactly (record_run s) (λ t. fewer_than16 t ∷ fewer_than_size t ∷ []) taken (λ t. whole_row t none_left) (record_steps a s) p
