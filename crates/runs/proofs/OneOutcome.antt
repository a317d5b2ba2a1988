-- Any two outcomes that a contract of this crate allows for the same input are one. Assumes nothing.
use Prim.Native.Nat.{ℕ, zero, suc}
use mathlib.Core.Path.{◌≡◌, sym, ap, ◌∙◌}
use mathlib.Core.List.{List}
use Rattle.answers.specs.declared.Refusal.{Refusal}
use Rattle.std.specs.Prelude.{Result, Ok, Err}
use Rattle.answers.specs.declared.Told.{Told}
use Rattle.answers.proofs.OneOutcome.{one_answer}
use Rattle.answers.proofs.OneToOne.{back, ok_back, refused_back, tells_one}
use Rattle.record.specs.declared.ResTableConfig.{ResTableConfig}
use Rattle.runs.specs.declared.Stop.{Stop}
use Rattle.runs.specs.declared.Step.{Step}
use Rattle.runs.specs.declared.Stepped.{Stepped}
use Rattle.runs.specs.declared.RunEnd.{RunEnd}
use Rattle.runs.specs.Fronts.{StepOutcome, front_of, stop_tells, step_tells}
use Rattle.runs.specs.Runs.{step_outcome, front_at, step_of, run_of}

-- the answer of an amount
answered : ℕ → Step
answered zero = Step.Stopped Stop.Ended
answered (suc n) = Step.Found

abbrev refused : Refusal → Step
refused why = Step.Stopped (Stop.Refused why)

-- each answer comes back from what it tells
step_back : (r : Step) → back answered refused (step_tells r) ≡ r
unfolding answered
step_back Step.Found = ok_back answered refused 1
step_back (Step.Stopped Stop.Ended) = ok_back answered refused 0
step_back (Step.Stopped (Stop.Refused why)) = refused_back answered refused why

-- two answers that tell the same are one
step_one : (r s : Step) → step_tells r ≡ step_tells s → r ≡ s
step_one = tells_one step_tells answered refused step_back

stepped_same : {a b : Step} {n m : ℕ} {r s : ResTableConfig} → a ≡ b → n ≡ m → r ≡ s
    → ◌≡◌ {A = Stepped} (record { answer = a; next = n; «record» = r }) (record { answer = b; next = m; «record» = s })
stepped_same p q e = cc

-- of `stays` and of a step, whatever its outcome o is defined to be: the answer, the offset and the record are fixed
pub one_stepped : {o : StepOutcome ResTableConfig} (r s : Stepped) → step_outcome r ≡ o → step_outcome s ≡ o → r ≡ s
one_stepped r s e f =
    let h = e ∙ sym f in
    stepped_same (step_one r.answer s.answer (ap (λ (o : StepOutcome ResTableConfig). o.tells) h))
    (ap (λ (o : StepOutcome ResTableConfig). o.next) h) (ap (λ (o : StepOutcome ResTableConfig). o.gives) h)

pub one_step : (a : ℕ) (bytes : List ℕ) (p : ℕ) (r s : Stepped) → step_outcome r ≡ step_of a bytes p → step_outcome s ≡ step_of a bytes p → r ≡ s
one_step a bytes p r s e f = one_stepped r s e f

-- of `told`, of `front_of`, of `front_at` and of `walk`: the answer is its definition's value at the input
pub one_told : (step : Step) (r t : Told) → r ≡ step_tells step → t ≡ step_tells step → r ≡ t
one_told step r t p q = one_answer step_tells step r t p q

pub one_stop : (stop : Stop) (r t : Told) → r ≡ stop_tells stop → t ≡ stop_tells stop → r ≡ t
one_stop stop r t p q = one_answer stop_tells stop r t p q

pub one_of : (answer : Result ℕ Refusal) (r t : Result ℕ Stop) → r ≡ front_of answer → t ≡ front_of answer → r ≡ t
one_of answer r t e f = one_answer front_of answer r t e f

pub one_front : (bytes : List ℕ) (p : ℕ) (r t : Result ℕ Stop) → r ≡ front_at bytes p → t ≡ front_at bytes p → r ≡ t
one_front bytes p r t e f = one_answer (front_at bytes) p r t e f

pub one_run : (bytes : List ℕ) (p : ℕ) (r t : RunEnd) → r ≡ run_of bytes p → t ≡ run_of bytes p → r ≡ t
one_run bytes p r t e f = one_answer (run_of bytes) p r t e f
