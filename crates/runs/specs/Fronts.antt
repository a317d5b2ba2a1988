-- A run of anything that stands end to end: it is fixed by what stands at each offset. Assumes nothing.
use Rattle.std.specs.Prelude.{ℕ, zero, suc, ◌+◌, List, [], ◌∷◌, Bool, cond, eqb, length, drop, Result, Ok, Err}
use Rattle.answers.specs.declared.Refusal.{Refusal}
use Rattle.answers.specs.declared.Told.{Told}
use Rattle.answers.specs.Tells.{success, refusal}
use Rattle.runs.specs.declared.Stop.{Stop}
use Rattle.runs.specs.declared.Step.{Step}
use Rattle.runs.specs.declared.RunEnd.{RunEnd}

-- what is given by what stands at an offset: by why a run stops there, or by how many bytes it takes
abbrev pub by_front : {A : Type 0} → (Stop → A) → (ℕ → A) → Result ℕ Stop → A
by_front stops takes (Ok n) = takes n
by_front stops takes (Err stop) = stops stop

-- what an answer of a call that takes bytes says of what stands at their front: so many bytes are taken, or a run stops there
abbrev pub front_of : Result ℕ Refusal → Result ℕ Stop
front_of (Ok n) = Ok n
front_of (Err why) = Err (Stop.Refused why)

-- what stands at offset p of s, by what stands at the front of some bytes: at the exact end nothing; else what stands at the front of
-- the part that starts there
abbrev pub front_in : (List ℕ → Result ℕ Stop) → List ℕ → ℕ → Result ℕ Stop
front_in here s p = cond (eqb p (length s)) (Err Stop.Ended) (here (drop p s))

-- the offsets, at most k of them, of the run that begins at p, of what stands at each offset: the next one is as far behind as it takes bytes
unfoldable pub offsets_in : ℕ → (ℕ → Result ℕ Stop) → ℕ → List ℕ
offsets_in zero front p = []
offsets_in (suc k) front p = by_front (λ stop. []) (λ n. p ∷ offsets_in k front (p + n)) (front p)

-- where that run stops: at the first offset where nothing whole stands
unfoldable pub stop_in : ℕ → (ℕ → Result ℕ Stop) → ℕ → ℕ
stop_in zero front p = p
stop_in (suc k) front p = by_front (λ stop. p) (λ n. stop_in k front (p + n)) (front p)

-- why a run stops that stops at p
abbrev pub stop_at : (ℕ → Result ℕ Stop) → ℕ → Stop
stop_at front p = by_front (λ stop. stop) (λ n. Stop.Ended) (front p)

-- how many stand in that run, where it stops and why
abbrev pub end_in : ℕ → (ℕ → Result ℕ Stop) → ℕ → RunEnd
end_in k front p =
    record { records = length (offsets_in k front p); offset = stop_in k front p; stop = stop_at front (stop_in k front p) }

-- what a stop tells: 0 at the exact end, else the refusal
abbrev pub stop_tells : Stop → Told
stop_tells Stop.Ended = success 0
stop_tells (Stop.Refused why) = refusal why

-- what a step's answer tells: 1 as the amount for what was found, else what the stop tells
abbrev pub step_tells : Step → Told
step_tells Step.Found = success 1
step_tells (Step.Stopped stop) = stop_tells stop

-- what a step comes to: what it tells, the offset where the next step goes on, and what it gives
pub record StepOutcome (Given : Type 0) : Type 0 where
  pub tells : Told
  pub next : ℕ
  pub gives : Given

-- something is found, and the next offset is n
abbrev pub finds : {Given : Type 0} → ℕ → Given → StepOutcome Given
finds n given = record { tells = success 1; next = n; gives = given }

-- nothing is found: the reader stays at p, and what goes along holds nothing
abbrev pub stands : {Given : Type 0} → Given → ℕ → Told → StepOutcome Given
stands nothing p told = record { tells = told; next = p; gives = nothing }

-- a step at p of a reader that reads what stands there
abbrev pub step_by : {Given : Type 0} → (ℕ → Result ℕ Stop) → Given → (ℕ → Given) → ℕ → StepOutcome Given
step_by front nothing read p = by_front (λ stop. stands nothing p (stop_tells stop)) (λ n. finds (p + n) (read p)) (front p)

-- whether a step found something
abbrev pub found : {Given : Type 0} → StepOutcome Given → Bool
found step = eqb step.tells.amount 1

-- the offsets at which a reader finds something in at most k steps that goes on where each step says, the first at p
unfoldable pub finds_in : {Given : Type 0} → ℕ → (ℕ → StepOutcome Given) → ℕ → List ℕ
finds_in zero step p = []
finds_in (suc k) step p = cond (found (step p)) (p ∷ finds_in k step (step p).next) []

-- the offset at which it stands when it finds no more
unfoldable pub stands_in : {Given : Type 0} → ℕ → (ℕ → StepOutcome Given) → ℕ → ℕ
stands_in zero step p = p
stands_in (suc k) step p = cond (found (step p)) (stands_in k step (step p).next) p
