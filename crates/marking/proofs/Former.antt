-- The letters of the word are the marks of the former layout, in which each field's letter stood for itself. Assumes nothing.
use Prim.Native.Nat.{ℕ}
use mathlib.Core.Path.{◌≡◌, refl}
use mathlib.Core.List.{List, [], ◌∷◌, map}
use Rattle.mark.specs.Word.{letter_of, letters_of}
use Rattle.mark.proofs.Letters.{letters_are}
use Rattle.reading.specs.Reading.{taken}
use Rattle.marking.specs.Marks.{mark_in, word_in, word_of, letters_in}
use Rattle.marking.proofs.Marking.{marks_from}

-- the former definition of the letters, word for word
abbrev pub former_in : ℕ → ℕ → List ℕ → List ℕ
former_in a t s = map (λ f. letter_of (mark_in a t s f)) (1 ∷ 2 ∷ 3 ∷ 4 ∷ 5 ∷ 6 ∷ 7 ∷ 8 ∷ 9 ∷ 10 ∷ 11 ∷ 12 ∷ 13 ∷ 14 ∷ [])

pub letters_former : (a t : ℕ) (s : List ℕ) → letters_in a t s ≡ former_in a t s
unfolding letters_in word_in
letters_former a t s = letters_are (marks_from a t s) refl

-- of every record at every age
pub word_former : (a : ℕ) (s : List ℕ) → letters_of (word_of a s) ≡ former_in a (taken s) s
unfolding letters_in
word_former a s = letters_former a (taken s) s
