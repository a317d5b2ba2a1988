-- The cases of holding back and of the marks, by what `take` answers, and of a call that goes on from such an answer. Assumes nothing.
use Prim.Native.Nat.{ℕ}
use mathlib.Core.Path.{◌≡◌, sym, ap, ◌∙◌}
use mathlib.Core.Bool.{Bool, true, cond}
use mathlib.Core.List.{List}
use Rattle.answers.specs.declared.Refusal.{Refusal}
use Rattle.answers.specs.declared.Told.{Told}
use Rattle.answers.specs.Tells.{success, refusal}
use Rattle.record.specs.Ages.{is_age}
use Rattle.reading.specs.Reading.{if_whole, if_age, take_of}
use Rattle.reading.proofs.Whole.{age_known, age_map, whole_map, took_says, took_whole, refused_whole}
use Rattle.marking.specs.Marks.{late_bytes, held_back, held_of}

-- of every call at an age: what is given, or the refusal
module _ {A : Type 0} (a : ℕ) (s : List ℕ) (refuse : Refusal → A) (give : A) (known : true ≡ is_age a) where
  pub gives : (n : ℕ) → success n ≡ take_of s → if_age a refuse (if_whole s refuse give) ≡ give
  gives n e = age_known a refuse _ known ∙ took_whole s refuse give n e

  pub refuses : (why : Refusal) → refusal why ≡ take_of s → if_age a refuse (if_whole s refuse give) ≡ refuse why
  refuses why e = age_known a refuse _ known ∙ refused_whole s refuse give why e

-- an answer that tells a refusal with 3, 1, 2 or 8, or else what `good` tells, decides every call that goes on from it
module _ {R : Type 0} (tells : R → Told) (one : (r s : R) → tells r ≡ tells s → r ≡ s) (a : ℕ) (s : List ℕ) (bad : Refusal → R) (good : R) where
  shape : {A : Type 0} (go : R → A) → go (if_age a bad (if_whole s bad good)) ≡ if_age a (λ why. go (bad why)) (if_whole s (λ why. go (bad why)) (go good))
  shape go = age_map go a bad _ ∙ ap (if_age a (λ why. go (bad why))) (whole_map go s bad good)

  pub by_answer : {A : Type 0} (go : R → A) (r : R) → tells r ≡ if_age a (λ why. tells (bad why)) (if_whole s (λ why. tells (bad why)) (tells good))
      → if_age a (λ why. go (bad why)) (if_whole s (λ why. go (bad why)) (go good)) ≡ go r
  by_answer go r e = sym (shape go) ∙ ap go (one (if_age a bad (if_whole s bad good)) r (shape tells ∙ sym e))

-- yes or no, by the bytes that were looked at
pub held_said : (a : ℕ) (s : List ℕ) (n : ℕ) (late : Bool) → true ≡ is_age a → success n ≡ take_of s → late ≡ late_bytes s n a
    → success (cond late 1 0) ≡ held_of a s
unfolding held_back
held_said a s n late known e l = rw (gives a s _ _ known n e, l, (took_says s n e).0)
