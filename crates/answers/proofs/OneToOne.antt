-- What an answer tells fixes the answer: two answers that tell the same are one. Assumes nothing.
use Prim.Native.Nat.{ℕ, zero, suc, ◌<◌, ◌≤◌}
use mathlib.Core.Path.{◌≡◌, refl, sym, ap, ap₂, ◌∙◌}
use mathlib.Core.List.{List, [], ◌∷◌}
use lib.Dec.{lit<, lit≤}
use lib.ListN.{get_or}
use Rattle.answers.specs.declared.Refusal.{Refusal}
use Rattle.std.specs.Prelude.{Result, Ok, Err}
use Rattle.answers.specs.declared.Told.{Told}
use Rattle.answers.specs.declared.Counted.{Counted}
use Rattle.answers.specs.Counted.{counted_with, written_by, replacements_by}
use Rattle.answers.specs.Numbers.{carried_by, number_of}
use Rattle.answers.specs.Tells.{success, refusal, tells, told_of}

-- what has a way back is one-to-one
pub one_to_one : {A B : Type 0} (f : A → B) (back : B → A) → ((a : A) → back (f a) ≡ a) → (a b : A) → f a ≡ f b → a ≡ b
one_to_one f back there a b e = sym (there a) ∙ ap back e ∙ there b

-- the refusals by their numbers, from 1, each with what it carries
unfoldable pub refusals : ℕ → List Refusal
refusals carried =
    Refusal.TooFewBytes
    ∷ Refusal.FieldCut carried
    ∷ Refusal.NotAnAge
    ∷ Refusal.HeldBack
    ∷ Refusal.ShortBuffer
    ∷ Refusal.UnreadField
    ∷ Refusal.TooMuchInput
    ∷ Refusal.UndecodedCut
    ∷ Refusal.WrongType
    ∷ Refusal.WrongSizes
    ∷ Refusal.NotAName carried
    ∷ Refusal.TopBits
    ∷ []

abbrev by_number : {A : Type 0} → (ℕ → A) → (Refusal → A) → ℕ → ℕ → ℕ → A
by_number ok bad zero amount carried = ok amount
by_number ok bad (suc k) amount carried = bad (get_or (refusals carried) k Refusal.TooFewBytes)

-- the way back from what is told, for an answer that is ok of its amount or bad of a refusal
unfoldable pub back : {A : Type 0} → (ℕ → A) → (Refusal → A) → Told → A
back ok bad t = by_number ok bad t.number t.amount t.carried

-- an amount comes back from a success
pub ok_back : {A : Type 0} (ok : ℕ → A) (bad : Refusal → A) (amount : ℕ) → back ok bad (success amount) ≡ ok amount
unfolding back
ok_back ok bad amount = refl

-- a refusal comes back from what it tells
pub refused_back : {A : Type 0} (ok : ℕ → A) (bad : Refusal → A) (why : Refusal) → back ok bad (refusal why) ≡ bad why
unfolding back refusals
refused_back ok bad Refusal.TooFewBytes = refl
refused_back ok bad (Refusal.FieldCut row) = refl
refused_back ok bad Refusal.NotAnAge = refl
refused_back ok bad Refusal.HeldBack = refl
refused_back ok bad Refusal.ShortBuffer = refl
refused_back ok bad Refusal.UnreadField = refl
refused_back ok bad Refusal.TooMuchInput = refl
refused_back ok bad Refusal.UndecodedCut = refl
refused_back ok bad Refusal.WrongType = refl
refused_back ok bad Refusal.WrongSizes = refl
refused_back ok bad (Refusal.NotAName at) = refl
refused_back ok bad Refusal.TopBits = refl

-- answers that come back from what they tell are one where they tell the same
pub tells_one : {A : Type 0} (tells : A → Told) (ok : ℕ → A) (bad : Refusal → A)
    → ((a : A) → back ok bad (tells a) ≡ a) → (a b : A) → tells a ≡ tells b → a ≡ b
tells_one tells ok bad there = one_to_one tells (back ok bad) there

answer_back : (a : Result ℕ Refusal) → back Ok Err (told_of a) ≡ a
answer_back (Ok n) = ok_back Ok Err n
answer_back (Err why) = refused_back Ok Err why

-- the numbers are 1 to 12
numbers_are : (why : Refusal) → (0 < number_of why) × (number_of why ≤ 12)
numbers_are Refusal.TooFewBytes = (lit< tt, lit≤ tt)
numbers_are (Refusal.FieldCut row) = (lit< tt, lit≤ tt)
numbers_are Refusal.NotAnAge = (lit< tt, lit≤ tt)
numbers_are Refusal.HeldBack = (lit< tt, lit≤ tt)
numbers_are Refusal.ShortBuffer = (lit< tt, lit≤ tt)
numbers_are Refusal.UnreadField = (lit< tt, lit≤ tt)
numbers_are Refusal.TooMuchInput = (lit< tt, lit≤ tt)
numbers_are Refusal.UndecodedCut = (lit< tt, lit≤ tt)
numbers_are Refusal.WrongType = (lit< tt, lit≤ tt)
numbers_are Refusal.WrongSizes = (lit< tt, lit≤ tt)
numbers_are (Refusal.NotAName at) = (lit< tt, lit≤ tt)
numbers_are Refusal.TopBits = (lit< tt, lit≤ tt)

-- so no refusal has a success's number
pub number_pos : (why : Refusal) → 0 < number_of why
number_pos why = (numbers_are why).0

-- and 12 is the last
pub number_most : (why : Refusal) → number_of why ≤ 12
number_most why = (numbers_are why).1

told_same : {m n i j : ℕ} → m ≡ n → i ≡ j → ◌≡◌ {A = Told} (record { number = m; amount = 0; carried = i }) (record { number = n; amount = 0; carried = j })
told_same p q = cc

-- what is told fixes the refusal
pub told_one : (a b : Refusal) → refusal a ≡ refusal b → a ≡ b
told_one = tells_one refusal (λ m. Refusal.TooFewBytes) (λ why. why) (refused_back (λ m. Refusal.TooFewBytes) (λ why. why))

-- so two refusals that have one number and carry the same are one
pub number_one : (a b : Refusal) → number_of a ≡ number_of b → carried_by a ≡ carried_by b → a ≡ b
number_one a b p q = told_one a b (told_same p q)

-- an answer with replacements is what it says of the bytes, with those replacements
counted_back : (a : Result Counted Refusal) → counted_with (replacements_by a) (written_by a) ≡ a
counted_back (Ok counted) = refl
counted_back (Err why) = refl

-- what it tells is what it says of the bytes
pub counted_tells : (a : Result Counted Refusal) → tells (λ (counted : Counted). counted.length) a ≡ told_of (written_by a)
counted_tells (Ok counted) = refl
counted_tells (Err why) = refl

-- two answers that tell the same are one
pub answer_one : (a b : Result ℕ Refusal) → told_of a ≡ told_of b → a ≡ b
answer_one = tells_one told_of Ok Err answer_back

-- and so are two with replacements
pub counted_one : (a b : Result Counted Refusal) → told_of (written_by a) ≡ told_of (written_by b) → replacements_by a ≡ replacements_by b → a ≡ b
counted_one a b p q =
    sym (counted_back a) ∙ ap₂ counted_with q (answer_one (written_by a) (written_by b) p) ∙ counted_back b
