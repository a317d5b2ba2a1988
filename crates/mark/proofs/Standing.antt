-- Letters and the word that they stand for fix each other, and every number below 2^28 has letters. Assumes nothing.
use Prim.Native.Nat.{ℕ, ◌^◌, ◌<◌}
use mathlib.Core.Path.{◌≡◌, refl, sym, ap, ◌∙◌}
use mathlib.Core.Bool.{cond}
use mathlib.Core.List.{List, [], ◌∷◌, map}
use native.Mathlib.Omega.{arith}
use lib.Dec.{eqb}
use Rattle.answers.proofs.OneToOne.{one_to_one}
use Rattle.buffer.proofs.Writing.{written_fits}
use Rattle.mark.specs.declared.Mark.{Mark}
use Rattle.mark.specs.Word.{letter_of, in_one_word, marks_in, letters_of}
use Rattle.mark.specs.Claims.{StandFor, EachHasLetters, OneWord, OneSpelling}
use Rattle.mark.proofs.Words.{word_back, word_below}
use Rattle.mark.proofs.Letters.{letters_length, letters_are}
use Rattle.mark.proofs.Exactly.{letters_given}

again : (word : ℕ) → word < 2 ^ 28 → StandFor (letters_of word) word
unfolding letters_of
again word h = record { marks = marks_in 14 word; fourteen = refl; letters_are = refl; word_is = word_back 14 word h }

pub each_has_letters : EachHasLetters
each_has_letters word h =
    record {
      given = λ old room. letters_given word old h ∙ written_fits (letters_of word) old (omega (arith, letters_length word));
      again = again word h;
    }

pub one_spelling : OneSpelling
one_spelling letters word stand =
    let small = word_below 14 stand.marks (omega (arith, stand.fourteen)) in
    (rw stand.word_is at small, ap letters_of (sym stand.word_is) ∙ letters_are stand.marks stand.fourteen ∙ stand.letters_are)

-- marks come back from their letters
abbrev letter_mark : ℕ → Mark
letter_mark l = cond (eqb l 65) Mark.Absent (cond (eqb l 66) Mark.Blank (cond (eqb l 70) Mark.Filled Mark.Unknown))

letter_back : (m : Mark) → letter_mark (letter_of m) ≡ m
letter_back Mark.Absent = refl
letter_back Mark.Blank = refl
letter_back Mark.Filled = refl
letter_back Mark.Unknown = refl

letters_back : (ms : List Mark) → map letter_mark (map letter_of ms) ≡ ms
letters_back [] = refl
letters_back (m ∷ ms) = rw (letter_back m, letters_back ms)

pub one_word : OneWord
one_word letters v w x y =
    let same = one_to_one (map letter_of) (map letter_mark) letters_back x.marks y.marks (x.letters_are ∙ sym y.letters_are) in
    sym x.word_is ∙ ap in_one_word same ∙ y.word_is
