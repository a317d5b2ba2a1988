-- Parsing as it was before 02, K2, when 2 was one refusal with no row: 2 and 8 together are what it was. Assumes nothing.
use Prim.Native.Nat.{ℕ}
use mathlib.Core.Path.{◌≡◌, refl, ap}
use mathlib.Core.Bool.{cond}
use mathlib.Core.List.{List}
use lib.Dec.{ltb}
use lib.ListN.{length}
use Rattle.answers.specs.declared.Refusal.{Refusal}
use Rattle.reading.specs.Cut.{lacking}
use Rattle.reading.specs.Reading.{if_whole, size_of}
use Rattle.reading.proofs.Cut.{by_lacking}

-- the 2 of then, which told no row: here it is that of row 0, which never comes now
abbrev pub former_two : Refusal
former_two = Refusal.FieldCut 0

-- what was given then where a whole record stands at the front of s
unfoldable pub former_whole : {A : Type 0} → List ℕ → (Refusal → A) → A → A
former_whole s refuse give =
    cond (ltb (length s) 16) (refuse Refusal.TooFewBytes)
    (cond (ltb (length s) (size_of s)) (refuse former_two) give)

-- a refusal with the row forgotten, and 8 as the 2 that it was
abbrev pub former : Refusal → Refusal
former Refusal.TooFewBytes = Refusal.TooFewBytes
former (Refusal.FieldCut row) = former_two
former Refusal.NotAnAge = Refusal.NotAnAge
former Refusal.HeldBack = Refusal.HeldBack
former Refusal.ShortBuffer = Refusal.ShortBuffer
former Refusal.UnreadField = Refusal.UnreadField
former Refusal.TooMuchInput = Refusal.TooMuchInput
former Refusal.UndecodedCut = former_two
former Refusal.WrongType = Refusal.WrongType
former Refusal.WrongSizes = Refusal.WrongSizes
former (Refusal.NotAName at) = Refusal.NotAName at
former Refusal.TopBits = Refusal.TopBits

-- what is lacking was 2
former_lacking : (n size : ℕ) → former (lacking n size) ≡ former_two
former_lacking n size = by_lacking n size (λ why. former why ≡ former_two) (λ f h. refl) refl

-- every call that goes by a whole record gave what it gives now, with that refusal
pub former_whole_lem : {A : Type 0} (s : List ℕ) (refuse : Refusal → A) (give : A) → if_whole s (λ why. refuse (former why)) give ≡ former_whole s refuse give
unfolding if_whole former_whole
former_whole_lem s refuse give =
    ap (λ (why : Refusal). cond (ltb (length s) 16) (refuse Refusal.TooFewBytes) (cond (ltb (length s) (size_of s)) (refuse why) give))
    (former_lacking (length s) (size_of s))
