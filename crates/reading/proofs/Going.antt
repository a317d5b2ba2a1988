-- A call that goes on from the end of an age and from `take`: it hands their refusals on, or gives what it has. Assumes nothing.
use Prim.Native.Nat.{ℕ}
use mathlib.Core.Path.{◌≡◌, sym, ap, ◌∙◌}
use mathlib.Core.List.{List}
use Rattle.std.specs.Prelude.{Result, Ok, Err, IsErrAnd}
use Rattle.answers.specs.declared.Refusal.{Refusal}
use Rattle.answers.specs.Tells.{success, refusal}
use Rattle.answers.proofs.Passed.{passed_on}
use Rattle.record.specs.Ages.{end_of_age}
use Rattle.reading.specs.Reading.{if_whole, if_age, take_of}
use Rattle.reading.proofs.Whole.{age_known, age_refused, end_known, took_whole, refused_whole}

module _ {A R : Type 0} (go : Result R Refusal → A) (give : A) where
  -- the refusal of an age that is none of the twelve
  pub end_passed : (a : ℕ) {r : Result R Refusal} (why : Refusal) → Err why ≡ end_of_age a → IsErrAnd r (λ e. e ≡ why)
      → go r ≡ if_age a (λ w. go (Err w)) give
  end_passed a why e h = ap go (passed_on h) ∙ sym (age_refused a (λ w. go (Err w)) give why e)

  -- the refusal of `take`
  pub take_passed : (s : List ℕ) {r : Result R Refusal} (why : Refusal) → refusal why ≡ take_of s → IsErrAnd r (λ e. e ≡ why)
      → go r ≡ if_whole s (λ w. go (Err w)) give
  take_passed s why e h = ap go (passed_on h) ∙ sym (refused_whole s (λ w. go (Err w)) give why e)

module _ {A : Type 0} (refuse : Refusal → A) (give : A) where
  -- the end of an age is there
  pub ended : (a n : ℕ) → Ok n ≡ end_of_age a → if_age a refuse give ≡ give
  ended a n e = age_known a refuse give (end_known a n e).0

  -- a whole record is there
  pub took : (s : List ℕ) (n : ℕ) → success n ≡ take_of s → if_whole s refuse give ≡ give
  took s n e = took_whole s refuse give n e

-- the end that is given is the age
pub end_is : (a n : ℕ) → Ok n ≡ end_of_age a → n ≡ a
end_is a n e = (end_known a n e).1
