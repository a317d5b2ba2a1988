-- What goes by a row of conditions gives each number exactly under its condition. Assumes nothing.
use Prim.Native.Nat.{ℕ}
use mathlib.Core.Path.{◌≡◌, refl, sym, ap, ◌∙◌}
use mathlib.Core.Bool.{Bool, true, false, not, cond}
use mathlib.Core.List.{List, [], ◌∷◌, ◌++◌}
use mathlib.Core.Logic.{◌↔◌, ◌⊎◌, inl, inr}
use native.Mathlib.Omega.{arith}
use lib.Dec.{T, eqb}
use borrow.Author.Tests.{eqb-false}
use Rattle.laws.proofs.Choice.{cond_not}
use Rattle.answers.specs.declared.Refusal.{Refusal}
use Rattle.std.specs.Prelude.{Result, Ok, Err}
use Rattle.answers.specs.declared.Told.{Told}
use Rattle.answers.specs.Numbers.{number_of}
use Rattle.answers.specs.Tells.{success, refusal, told_of}
use Rattle.answers.specs.Demand1.{Condition, NoneOf, FirstOf, Exactly}
use Rattle.answers.proofs.OneToOne.{number_pos, told_one}

-- what comes of a row of conditions: the first that holds refuses, and where none does, the call gives
abbrev pub by_row : {A : Type 0} → List Condition → (Refusal → A) → A → A
by_row [] refuse give = give
by_row (c ∷ row) refuse give = cond c.holds (refuse c.why) (by_row row refuse give)

-- what is given by the answer of a call that takes bytes
abbrev pub by_answer : {A : Type 0} → (Refusal → A) → (ℕ → A) → Result ℕ Refusal → A
by_answer refuse give (Ok n) = give n
by_answer refuse give (Err why) = refuse why

-- o is what comes of a row
pub record Goes {A : Type 0} (row : List Condition) (refuse : Refusal → A) (give : A) (o : A) : Type 0 where
  pub by : o ≡ by_row row refuse give

-- with no condition the call gives
pub none_left : {A : Type 0} {refuse : Refusal → A} {give : A} → Goes [] refuse give give
none_left = record { by = refl }

-- a condition before a row
pub one_more : {A : Type 0} {row : List Condition} {refuse : Refusal → A} {give o : A} (c : Condition) → Goes row refuse give o
    → Goes (c ∷ row) refuse give (cond c.holds (refuse c.why) o)
one_more c g = record { by = rw g.by }

-- the same of a condition that holds where a test fails
pub one_unless : {A : Type 0} {row : List Condition} {refuse : Refusal → A} {give o : A} (test : Bool) (why : Refusal) → Goes row refuse give o
    → Goes (record { holds = not test; why = why } ∷ row) refuse give (cond test o (refuse why))
one_unless {refuse = refuse} test why g = record { by = rw g.by (sym (cond_not test (refuse why) _)) }

module _ {A : Type 0} (refuse : Refusal → A) (give : A) where
  first_by : (why : Refusal) (b : Bool) (r : Refusal) (rest : A) {F : Type 0} → (F → rest ≡ refuse why)
      → ((b ≡ true) × (r ≡ why)) ⊎ ((b ≡ false) × F) → cond b (refuse r) rest ≡ refuse why
  first_by why b r rest more (inl h) = rw h.0 (ap refuse h.1)
  first_by why b r rest more (inr h) = rw h.0 (more h.1)

  -- the first refusal of a row is the one that comes
  pub row_first : (why : Refusal) (row : List Condition) → FirstOf why row → by_row row refuse give ≡ refuse why
  row_first why [] h = absurd h
  row_first why (c ∷ row) h = first_by why c.holds c.why (by_row row refuse give) (row_first why row) h

  -- and where no condition holds, the call gives
  pub row_none : (row : List Condition) → NoneOf row → by_row row refuse give ≡ give
  row_none [] h = refl
  row_none (c ∷ row) h = rw h.0 (row_none row h.1)

-- an outcome that tells a refusal where it refuses, and number 0 where it gives
module _ {A : Type 0} (told : A → Told) (refuse : Refusal → A) (give : A) (bad : (why : Refusal) → told (refuse why) ≡ refusal why) (good : (told give).number ≡ 0) where
  -- no refusal tells a success
  not_good : (why : Refusal) → (told (refuse why)).number ≡ 0 → ⊥
  not_good why e = let z = sym (ap (λ (t : Told). t.number) (bad why)) ∙ e in omega (arith, number_pos why)

  refused_by : (why : Refusal) (b : Bool) (r : Refusal) (rest : A) {F : Type 0} → (told rest ≡ refusal why → F)
      → told (cond b (refuse r) rest) ≡ refusal why → ((b ≡ true) × (r ≡ why)) ⊎ ((b ≡ false) × F)
  refused_by why true r rest more e = inl (refl, told_one r why (sym (bad r) ∙ e))
  refused_by why false r rest more e = inr (refl, more e)

  row_refused : (why : Refusal) (row : List Condition) → told (by_row row refuse give) ≡ refusal why → FirstOf why row
  row_refused why [] e = let z = sym good ∙ ap (λ (t : Told). t.number) e in omega (arith, number_pos why)
  row_refused why (c ∷ row) e = refused_by why c.holds c.why (by_row row refuse give) (row_refused why row) e

  gave_by : (b : Bool) (r : Refusal) (rest : A) {N : Type 0} → ((told rest).number ≡ 0 → N) → (told (cond b (refuse r) rest)).number ≡ 0 → (b ≡ false) × N
  gave_by true r rest more e = absurd (not_good r e)
  gave_by false r rest more e = (refl, more e)

  row_gave : (row : List Condition) → (told (by_row row refuse give)).number ≡ 0 → NoneOf row
  row_gave [] e = tt
  row_gave (c ∷ row) e = gave_by c.holds c.why (by_row row refuse give) (row_gave row) e

  stays_by : (P : A → Type 0) → ((why : Refusal) → P (refuse why)) → (b : Bool) (r : Refusal) (rest : A) → (((told rest).number ≡ 0 → ⊥) → P rest)
      → ((told (cond b (refuse r) rest)).number ≡ 0 → ⊥) → P (cond b (refuse r) rest)
  stays_by P p true r rest more d = p r
  stays_by P p false r rest more d = more d

  stays : (P : A → Type 0) → ((why : Refusal) → P (refuse why)) → (row : List Condition) → ((told (by_row row refuse give)).number ≡ 0 → ⊥)
      → P (by_row row refuse give)
  stays P p [] d = absurd (d good)
  stays P p (c ∷ row) d = stays_by P p c.holds c.why (by_row row refuse give) (stays P p row) d

  -- each refusal exactly under its condition
  pub row_exactly : {row : List Condition} {o : A} → Goes row refuse give o → Exactly row (told o)
  row_exactly {row} g =
      rw g.by (record {
        refuses = λ why. (row_refused why row, (λ h. ap told (row_first refuse give why row h) ∙ bad why));
        succeeds = (row_gave row, (λ h. ap (λ (o : A). (told o).number) (row_none refuse give row h) ∙ good));
      })

  -- what holds of every refusal holds of the outcome unless it succeeded
  pub row_stays : {row : List Condition} {o : A} → Goes row refuse give o → (P : A → Type 0) → ((why : Refusal) → P (refuse why))
      → ((told o).number ≡ 0 → ⊥) → P o
  row_stays {row} g P p = rw g.by (stays P p row)

-- a call that takes n bytes goes by a row: what it answers says how every other call goes by that row
module _ (row : List Condition) (n : ℕ) where
  abbrev ToldBy : Told → Type 0
  ToldBy t = t ≡ by_row row refusal (success n)

  pub took_none : (m : ℕ) → ToldBy (success m) → (m ≡ n) × NoneOf row
  took_none m e =
      let none = row_gave (λ (t : Told). t) refusal (success n) (λ why. refl) refl row (sym (ap (λ (t : Told). t.number) e)) in
      (ap (λ (t : Told). t.amount) (e ∙ row_none refusal (success n) row none), none)

  pub refused_first : (why : Refusal) → ToldBy (refusal why) → FirstOf why row
  refused_first why e = row_refused (λ (t : Told). t) refusal (success n) (λ why. refl) refl why row (sym e)

  pub answered : {A : Type 0} (refuse : Refusal → A) (give : ℕ → A) (r : Result ℕ Refusal) → ToldBy (told_of r) → by_row row refuse (give n) ≡ by_answer refuse give r
  answered refuse give (Ok m) e = let t = took_none m e in row_none refuse (give n) row t.1 ∙ ap give (sym t.0)
  answered refuse give (Err why) e = row_first refuse (give n) why row (refused_first why e)

-- a call that takes bytes by a row has an answer
pub record Answering (row : List Condition) (n : ℕ) : Type 0 where
  pub answer : Result ℕ Refusal
  pub told : told_of answer ≡ by_row row refusal (success n)

answer_by : (b : Bool) (why : Refusal) {row : List Condition} {n : ℕ} → Answering row n → Answering (record { holds = b; why = why } ∷ row) n
answer_by true why later = record { answer = Err why; told = refl }
answer_by false why later = record { answer = later.answer; told = later.told }

pub answering : (row : List Condition) (n : ℕ) → Answering row n
answering [] n = record { answer = Ok n; told = refl }
answering (c ∷ row) n = answer_by c.holds c.why (answering row n)

-- what is said of a call is said of each way that it goes
map_by : {A B : Type 0} (f : A → B) (b : Bool) (x y : A) (z : B) → f y ≡ z → f (cond b x y) ≡ cond b (f x) z
map_by f true x y z e = refl
map_by f false x y z e = e

pub row_map : {A B : Type 0} (f : A → B) (row : List Condition) (refuse : Refusal → A) (give : A)
    → f (by_row row refuse give) ≡ by_row row (λ why. f (refuse why)) (f give)
row_map f [] refuse give = refl
row_map f (c ∷ row) refuse give = map_by f c.holds (refuse c.why) (by_row row refuse give) _ (row_map f row refuse give)

-- of a call that answers by what is told
pub told_exactly : {row : List Condition} {n : ℕ} {t : Told} → Goes row refusal (success n) t → Exactly row t
told_exactly {n = n} g = row_exactly (λ (t : Told). t) refusal (success n) (λ why. refl) refl g

-- a refusal that no condition of a row asks for, by a computed test
abbrev pub absent : Refusal → List Condition → Bool
absent why [] = true
absent why (c ∷ row) = cond (eqb (number_of c.why) (number_of why)) false (absent why row)

other_by : (r why : Refusal) (b rest : Bool) → eqb (number_of r) (number_of why) ≡ b → T (cond b false rest) → (r ≡ why → ⊥) × T rest
other_by r why true rest e t = absurd t
other_by r why false rest e t = ((λ q. eqb-false (number_of r) (number_of why) e (ap number_of q)), t)

-- the first condition of such a row asks for another, and so do the rest
others : (why : Refusal) (c : Condition) (row : List Condition) → T (absent why (c ∷ row)) → (c.why ≡ why → ⊥) × T (absent why row)
others why c row t = other_by c.why why (eqb (number_of c.why) (number_of why)) (absent why row) refl t

never : (why : Refusal) (row : List Condition) → T (absent why row) → FirstOf why row → ⊥
never why [] t h = h
never why (c ∷ row) t (inl h) = (others why c row t).0 h.1
never why (c ∷ row) t (inr h) = never why row (others why c row t).1 h.1

module _ (c : Condition) (behind : List Condition) (last : T (absent c.why behind)) where
  holds_first : (before : List Condition) → T (absent c.why before) → FirstOf c.why (before ++ (c ∷ behind)) → NoneOf before × (c.holds ≡ true)
  holds_first [] t (inl h) = (tt, h.0)
  holds_first [] t (inr h) = absurd (never c.why behind last h.1)
  holds_first (d ∷ before) t (inl h) = absurd ((others c.why d before t).0 h.1)
  holds_first (d ∷ before) t (inr h) = let g = holds_first before (others c.why d before t).1 h.1 in ((h.0, g.0), g.1)

  first_holds : (before : List Condition) → NoneOf before → c.holds ≡ true → FirstOf c.why (before ++ (c ∷ behind))
  first_holds [] n h = inl (h, refl)
  first_holds (d ∷ before) n h = inr (n.0, first_holds before n.1 h)

  -- of a call with a row that asks for a refusal once: it is told exactly when its condition holds and none before it does
  pub refusal_exactly : (before : List Condition) → T (absent c.why before) → (told : Told) → Exactly (before ++ (c ∷ behind)) told
      → (told ≡ refusal c.why) ↔ (NoneOf before × (c.holds ≡ true))
  refusal_exactly before t told e =
      ((λ q. holds_first before t ((e.refuses c.why).0 q)), (λ h. (e.refuses c.why).1 (first_holds before h.0 h.1)))
