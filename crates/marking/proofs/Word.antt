-- A record's marks in one word: their bits, and that nothing is lost in it. Assumes nothing.
use Prim.Native.Nat.{ℕ, ◌+◌, ◌-◌, ◌≤◌, ◌<◌}
use mathlib.Core.Path.{◌≡◌, refl, sym, ap, ◌∙◌}
use mathlib.Core.Bool.{true, true≢false}
use mathlib.Core.List.{List}
use native.Mathlib.Omega.{arith}
use lib.Seq.{ext_get_or}
use Rattle.answers.specs.declared.Told.{Told}
use Rattle.answers.specs.Tells.{success, refusal, told_of}
use Rattle.buffer.specs.Written.{Outcome, refused}
use Rattle.mark.specs.declared.Mark.{Mark}
use Rattle.mark.specs.Word.{bits_of, mark_of_bits, in_one_word, letters_outcome}
use Rattle.mark.specs.Claims.{bits_at}
use Rattle.mark.proofs.Words.{bits_at_lem, bits_back, word_below}
use Rattle.mark.proofs.Top.{top_clear, top_exactly}
use Rattle.mark.proofs.Exactly.{letters_given}
use Rattle.record.specs.Ages.{is_age}
use Rattle.reading.specs.Reading.{if_whole, if_age, taken}
use Rattle.reading.proofs.Whole.{age_known, whole_map}
use Rattle.std.specs.Prelude.{Result, Ok, Err}
use Rattle.answers.specs.declared.Refusal.{Refusal}
use Rattle.marking.specs.Marks.{mark_in, mark_of, word_in, word_of, letters_in, word_told, marks_outcome}
use Rattle.marking.specs.Word.{TopFourZero, BitsOfField, WordFixesMarks, LettersOfWord, EqualBits}
use Rattle.marking.proofs.Answering.{by_answer}
use Rattle.answers.proofs.OneToOne.{answer_one}
use Rattle.marking.proofs.Marking.{marks_from, field_mark}
use Rattle.marking.proofs.TwoAges.{same_mark}

-- fourteen marks are below 4^14
pub word_small : (a t : ℕ) (s : List ℕ) → word_in a t s < 268435456
unfolding word_in
word_small a t s = word_below 14 (marks_from a t s) (omega arith)

pub top_four_zero : TopFourZero
top_four_zero a s =
    let small = word_small a (taken s) s in
    (small, (λ b. true≢false (sym ((top_exactly (word_of a s)).1 b) ∙ top_clear (word_of a s) small)))

-- field i + 1
bits_in : (a t : ℕ) (s : List ℕ) (i : ℕ) → i < 14 → bits_at (word_in a t s) i ≡ bits_of (mark_in a t s (i + 1))
unfolding word_in
bits_in a t s i h = bits_at_lem (marks_from a t s) i ∙ ap bits_of (field_mark a t s i h)

pub bits_of_field : BitsOfField
bits_of_field a s f l u =
    let e : f - 1 + 1 ≡ f = omega arith in bits_in a (taken s) s (f - 1) (omega arith) ∙ ap (λ (g : ℕ). bits_of (mark_of a s g)) e

-- marks that are equal field by field have one word
pub same_word : (a b t u : ℕ) (s r : List ℕ) → ((i : ℕ) → i < 14 → mark_in a t s (i + 1) ≡ mark_in b u r (i + 1)) → word_in a t s ≡ word_in b u r
unfolding word_in
same_word a b t u s r same =
    ap in_one_word (ext_get_or Mark.Absent (marks_from a t s) (marks_from b u r) refl
    (λ i h. field_mark a t s i h ∙ same i h ∙ sym (field_mark b u r i h)))

pub word_fixes_marks : WordFixesMarks
word_fixes_marks a b s t = (forth, (λ same. same_word a b (taken s) (taken t) s t (λ i h. same (i + 1) (omega arith) (omega arith)))) where
  forth : word_of a s ≡ word_of b t → (f : ℕ) → 1 ≤ f → f ≤ 14 → mark_of a s f ≡ mark_of b t f
  forth e f l u =
      let bits = sym (bits_of_field a s f l u) ∙ ap (λ (w : ℕ). bits_at w (f - 1)) e ∙ bits_of_field b t f l u in
      sym (bits_back (mark_of a s f)) ∙ ap mark_of_bits bits ∙ bits_back (mark_of b t f)

pub letters_of_word : LettersOfWord
unfolding letters_in
letters_of_word a s old = ap (if_age a _) (ap (if_whole s _) (sym (letters_given (word_of a s) old (word_small a (taken s) s))))

-- the bits of a field in what is told
told_bits : (a : ℕ) (s : List ℕ) (i : ℕ) → is_age a ≡ true
    → bits_at (word_told a s).amount i ≡ if_whole s (λ why. bits_at 0 i) (bits_at (word_of a s) i)
told_bits a s i age =
    ap (λ (t : Told). bits_at t.amount i) (age_known a refusal _ (sym age)) ∙ whole_map (λ (t : Told). bits_at t.amount i) s refusal (success (word_of a s))

pub equal_bits : EqualBits
equal_bits older newer s r p q f l u k =
    let same = bits_of_field older s f l u ∙ ap bits_of (same_mark older newer s r f k) ∙ sym (bits_of_field newer s f l u) in
    told_bits older s (f - 1) p ∙ ap (if_whole s _) same ∙ sym (told_bits newer s (f - 1) q)

-- what writing the letters comes to, by the answer that gives the word
abbrev pub letters_by : List ℕ → Result ℕ Refusal → Outcome
letters_by old (Ok word) = letters_outcome word old
letters_by old (Err why) = refused why old

pub marks_by : (a : ℕ) (s old : List ℕ) (r : Result ℕ Refusal) → told_of r ≡ word_told a s → marks_outcome a s old ≡ letters_by old r
marks_by a s old r e =
    letters_of_word a s old ∙ by_answer told_of answer_one a s Err (Ok (word_of a s)) (letters_by old) r e
