-- Any two outcomes that a contract of this crate allows for the same input are one. Assumes nothing.
use Prim.Native.Nat.{ℕ, zero, suc, ◌+◌}
use mathlib.Core.Path.{◌≡◌, sym, ◌∙◌}
use mathlib.Core.List.{List}
use native.Mathlib.Omega.{arith}
use Rattle.std.specs.Prelude.{Option, None, Some, Result, Ok, Err}
use Rattle.answers.specs.declared.Refusal.{Refusal}
use Rattle.answers.specs.declared.Told.{Told}
use Rattle.answers.proofs.OneOutcome.{one_answer}
use Rattle.answers.proofs.OneToOne.{back, ok_back, refused_back, tells_one}
use Rattle.record.specs.declared.ResTableConfig.{ResTableConfig}
use Rattle.finding.specs.Finding.{find_of, sought_tells}

-- of `find`: the answer is its definition's value at the input
pub one_found : (e : List ℕ) (r : ResTableConfig) (f g : Option ℕ) → f ≡ find_of e r → g ≡ find_of e r → f ≡ g
one_found e r f g p q = one_answer (find_of e) r f g p q

-- and so is what is told of a finding
pub one_told : (sought : Result (Option ℕ) Refusal) (r t : Told) → r ≡ sought_tells sought → t ≡ sought_tells sought → r ≡ t
one_told sought r t p q = one_answer sought_tells sought r t p q

-- the answer of an amount
answered : ℕ → Result (Option ℕ) Refusal
answered zero = Ok None
answered (suc n) = Ok (Some n)

-- each answer comes back from what it tells
sought_back : (r : Result (Option ℕ) Refusal) → back answered Err (sought_tells r) ≡ r
unfolding answered
sought_back (Ok (Some place)) = let e : 1 + place ≡ suc place = omega arith in rw e (ok_back answered Err (suc place))
sought_back (Ok None) = ok_back answered Err 0
sought_back (Err why) = refused_back answered Err why

-- of `find_in`: the answer is fixed
pub one_sought : {t : Told} (r s : Result (Option ℕ) Refusal) → sought_tells r ≡ t → sought_tells s ≡ t → r ≡ s
one_sought r s p q = tells_one sought_tells answered Err sought_back r s (p ∙ sym q)
