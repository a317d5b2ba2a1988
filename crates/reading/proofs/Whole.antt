-- When a record is whole, and what the answer of `take` says of it. Assumes nothing.
use Prim.Native.Nat.{ℕ, ◌≤◌, ◌<◌}
use mathlib.Core.Path.{◌≡◌, refl, sym, ap, ◌∙◌}
use mathlib.Core.Bool.{Bool, true, false, cond}
use mathlib.Core.List.{List}
use native.Mathlib.Omega.{arith}
use native.Mathlib.Decide.{dec_lt}
use lib.Dec.{ltb}
use lib.ListN.{length}
use borrow.Author.Tests.{lt-ltb, le-ltb}
use Rattle.laws.proofs.Choice.{chosen}
use Rattle.answers.specs.declared.Refusal.{Refusal}
use Rattle.answers.specs.declared.Told.{Told}
use Rattle.answers.specs.Tells.{success, refusal}
use Rattle.answers.proofs.OneToOne.{told_one, number_pos}
use Rattle.std.specs.Prelude.{Result, Ok, Err}
use Rattle.record.specs.Ages.{is_age, end_of_age}
use Rattle.reading.specs.Cut.{lacking}
use Rattle.reading.specs.Reading.{if_whole, if_age, size_of, taken, take_of}

-- what stands at the front of some bytes: too few for any record, a record that is cut, or one that is whole
pub data Front (s : List ℕ) : Type 0 where
  short : length s < 16 → Front s
  cut : 16 ≤ length s → length s < size_of s → Front s
  whole : taken s ≤ length s → Front s

pub front : (s : List ℕ) → Front s
front s =
    elim (dec_lt (length s) 16) [
      | yes h ↦ Front.short h
      | no h ↦ elim (dec_lt (length s) (size_of s)) [
        | yes g ↦ Front.cut (omega arith) g
        | no g ↦ Front.whole (omega arith)
      ]
    ]

module _ {A : Type 0} (s : List ℕ) (refuse : Refusal → A) (give : A) where
  -- fewer than 16 bytes
  pub whole_short : length s < 16 → if_whole s refuse give ≡ refuse Refusal.TooFewBytes
  unfolding if_whole
  whole_short h = rw (lt-ltb (length s) 16 h)

  -- 16 bytes or more, and fewer than size
  pub whole_cut : 16 ≤ length s → length s < size_of s → if_whole s refuse give ≡ refuse (lacking (length s) (size_of s))
  unfolding if_whole
  whole_cut h g = rw (le-ltb (length s) 16 h, lt-ltb (length s) (size_of s) g)

  -- T bytes are there
  pub whole_took : taken s ≤ length s → if_whole s refuse give ≡ give
  unfolding if_whole
  whole_took h =
      let g : 16 ≤ length s = omega arith in
      let k : size_of s ≤ length s = omega arith in
      rw (le-ltb (length s) 16 g, le-ltb (length s) (size_of s) k)

pub cond_map : {A B : Type 0} (f : A → B) (b : Bool) (x y : A) → f (cond b x y) ≡ cond b (f x) (f y)
cond_map f true x y = refl
cond_map f false x y = refl

-- what is said of a call is said of each way that it goes
pub whole_map : {A B : Type 0} (f : A → B) (s : List ℕ) (refuse : Refusal → A) (give : A)
    → f (if_whole s refuse give) ≡ if_whole s (λ why. f (refuse why)) (f give)
unfolding if_whole
whole_map f s refuse give =
    rw (cond_map f (ltb (length s) 16) (refuse Refusal.TooFewBytes) _, cond_map f (ltb (length s) (size_of s)) (refuse (lacking (length s) (size_of s))) give)

pub age_map : {A B : Type 0} (f : A → B) (a : ℕ) (refuse : Refusal → A) (give : A)
    → f (if_age a refuse give) ≡ if_age a (λ why. f (refuse why)) (f give)
unfolding if_age
age_map f a refuse give = cond_map f (is_age a) give (refuse Refusal.NotAnAge)

-- what is given whatever happens
pub whole_same : {A : Type 0} (s : List ℕ) (x : A) → if_whole s (λ why. x) x ≡ x
unfolding if_whole
whole_same s x = chosen (λ y. y ≡ x) (ltb (length s) 16) refl (chosen (λ y. y ≡ x) (ltb (length s) (size_of s)) refl refl)

pub age_same : {A : Type 0} (a : ℕ) (x : A) → if_age a (λ why. x) x ≡ x
unfolding if_age
age_same a x = chosen (λ y. y ≡ x) (is_age a) refl refl

-- an age, and a number that is none
module _ {A : Type 0} (a : ℕ) (refuse : Refusal → A) (give : A) where
  pub age_known : true ≡ is_age a → if_age a refuse give ≡ give
  unfolding if_age
  age_known h = rw (← h)

  pub age_unknown : false ≡ is_age a → if_age a refuse give ≡ refuse Refusal.NotAnAge
  unfolding if_age
  age_unknown h = rw (← h)

-- the end of an age is given of one of the twelve alone, and is the age itself
known_by : (a n : ℕ) (b : Bool) → b ≡ is_age a → ◌≡◌ {A = Result ℕ Refusal} (Ok n) (cond b (Ok a) (Err Refusal.NotAnAge)) → (true ≡ is_age a) × (n ≡ a)
known_by a n true h e = (h, cc)
known_by a n false h e = absurd cc

unknown_by : (a : ℕ) (why : Refusal) (b : Bool) → b ≡ is_age a → ◌≡◌ {A = Result ℕ Refusal} (Err why) (cond b (Ok a) (Err Refusal.NotAnAge))
    → (false ≡ is_age a) × (why ≡ Refusal.NotAnAge)
unknown_by a why true h e = absurd cc
unknown_by a why false h e = (h, cc)

pub end_known : (a n : ℕ) → Ok n ≡ end_of_age a → (true ≡ is_age a) × (n ≡ a)
end_known a n e = known_by a n (is_age a) refl e

-- else the refusal is 3
pub end_unknown : (a : ℕ) (why : Refusal) → Err why ≡ end_of_age a → (false ≡ is_age a) × (why ≡ Refusal.NotAnAge)
end_unknown a why e = unknown_by a why (is_age a) refl e

-- a call that asks for the end of an age first
pub age_refused : {A : Type 0} (a : ℕ) (refuse : Refusal → A) (give : A) (why : Refusal) → Err why ≡ end_of_age a → if_age a refuse give ≡ refuse why
age_refused a refuse give why e = let u = end_unknown a why e in rw u.1 (age_unknown a refuse give u.0)

-- T bytes are there, and n is T
pub took_is : (s : List ℕ) (n : ℕ) → n ≡ taken s → taken s ≤ length s → success n ≡ take_of s
took_is s n e h = ap success e ∙ sym (whole_took s _ _ h)

told_number : {a b : Told} → a ≡ b → a.number ≡ b.number
told_number e = ap (λ (t : Told). t.number) e

-- an answer that took n bytes: they are T, and they are there
pub took_says : (s : List ℕ) (n : ℕ) → success n ≡ take_of s → (n ≡ taken s) × (taken s ≤ length s)
took_says s n e =
    elim (front s) [
      | short h ↦ absurd (let z = told_number (e ∙ whole_short s _ _ h) in omega arith)
      | cut h g ↦ absurd (let z = told_number (e ∙ whole_cut s _ _ h g) in omega (arith, number_pos (lacking (length s) (size_of s))))
      | whole h ↦ (ap (λ (t : Told). t.amount) (e ∙ whole_took s _ _ h), h)
    ]

-- an answer that took bytes: the record is whole
pub took_whole : {A : Type 0} (s : List ℕ) (refuse : Refusal → A) (give : A) (n : ℕ) → success n ≡ take_of s → if_whole s refuse give ≡ give
took_whole s refuse give n e = whole_took s refuse give (took_says s n e).1

-- an answer that refused: the same refusal stands for every call
pub refused_whole : {A : Type 0} (s : List ℕ) (refuse : Refusal → A) (give : A) (why : Refusal) → refusal why ≡ take_of s → if_whole s refuse give ≡ refuse why
refused_whole s refuse give why e =
    elim (front s) [
      | short h ↦ whole_short s refuse give h ∙ ap refuse (told_one Refusal.TooFewBytes why (sym (e ∙ whole_short s _ _ h)))
      | cut h g ↦ whole_cut s refuse give h g ∙ ap refuse (told_one (lacking (length s) (size_of s)) why (sym (e ∙ whole_cut s _ _ h g)))
      | whole h ↦ absurd (let z = told_number (e ∙ whole_took s _ _ h) in omega (arith, number_pos why))
    ]

-- what `take` answers: it takes n bytes, or it refuses
pub data Taking (s : List ℕ) : Type 0 where
  takes : (n : ℕ) → success n ≡ take_of s → Taking s
  refuses : (why : Refusal) → refusal why ≡ take_of s → Taking s

pub taking : (s : List ℕ) → Taking s
taking s =
    elim (front s) [
      | short h ↦ Taking.refuses Refusal.TooFewBytes (sym (whole_short s _ _ h))
      | cut h g ↦ Taking.refuses (lacking (length s) (size_of s)) (sym (whole_cut s _ _ h g))
      | whole h ↦ Taking.takes (taken s) (took_is s (taken s) refl h)
    ]
