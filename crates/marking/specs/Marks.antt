-- 01, "Ages, marks, runs", and 02, K8: the fourteen marks, and which records are held back. Assumes nothing.
use Rattle.std.specs.Prelude.{ℕ, ◌-◌, List, [], ◌∷◌, map, Bool, not, cond, ltb, take, drop, Result}
use Rattle.answers.specs.declared.Refusal.{Refusal}
use Rattle.answers.specs.declared.Told.{Told}
use Rattle.answers.specs.Tells.{success, refusal, tells}
use Rattle.buffer.specs.Written.{Outcome, written, refused}
use Rattle.mark.specs.declared.Mark.{Mark}
use Rattle.mark.specs.Word.{in_one_word, letters_of}
use Rattle.record.specs.Table.{start_of, end_of, part, all_zero}
use Rattle.reading.specs.Reading.{taken, if_whole, if_age}

-- the mark of a field that goes from start to end, in a record of t bytes at the front of s, for a reader of age a: unknown when its
-- end is past a; else absent when the record doesn't hold it; else blank when its bytes are all zero; else filled
unfoldable pub mark_between : ℕ → ℕ → List ℕ → ℕ → ℕ → Mark
mark_between a t s start end =
    cond (ltb a end) Mark.Unknown
    (cond (ltb t end) Mark.Absent
    (cond (all_zero (part s start (end - start))) Mark.Blank Mark.Filled))

-- the mark of field f
abbrev pub mark_in : ℕ → ℕ → List ℕ → ℕ → Mark
mark_in a t s f = mark_between a t s (start_of f) (end_of f)

-- the marks of the fourteen fields after size, in field order, in one word
unfoldable pub word_in : ℕ → ℕ → List ℕ → ℕ
word_in a t s = in_one_word (map (mark_in a t s) (1 ∷ 2 ∷ 3 ∷ 4 ∷ 5 ∷ 6 ∷ 7 ∷ 8 ∷ 9 ∷ 10 ∷ 11 ∷ 12 ∷ 13 ∷ 14 ∷ []))

-- their letters, made of the word
unfoldable pub letters_in : ℕ → ℕ → List ℕ → List ℕ
letters_in a t s = letters_of (word_in a t s)

-- the same of the record at the front of s, which takes T bytes
abbrev pub mark_of : ℕ → List ℕ → ℕ → Mark
mark_of a s f = mark_in a (taken s) s f

abbrev pub word_of : ℕ → List ℕ → ℕ
word_of a s = word_in a (taken s) s

abbrev pub marks_of : ℕ → List ℕ → List ℕ
marks_of a s = letters_in a (taken s) s

-- giving the marks in one word: 3, 1, 2 or 8
abbrev pub word_told : ℕ → List ℕ → Told
word_told a s = if_age a refusal (if_whole s refusal (success (word_of a s)))

-- writing their letters: 3, 1, 2 or 8, then 5
abbrev pub marks_outcome : ℕ → List ℕ → List ℕ → Outcome
marks_outcome a s old = if_age a (λ why. refused why old) (if_whole s (λ why. refused why old) (written (marks_of a s) old))

-- whether one of the first n bytes of s at offset a or later isn't zero
abbrev pub late_bytes : List ℕ → ℕ → ℕ → Bool
late_bytes s n a = not (all_zero (drop a (take n s)))

-- a record is held back exactly when one of its T bytes at offset a or later isn't zero
unfoldable pub held_back : ℕ → List ℕ → Bool
held_back a s = late_bytes s (taken s) a

-- what the answer whether a record is held back tells: a refusal's number; else 0, and 1 for yes or 0 for no as its amount
abbrev pub held_tells : Result Bool Refusal → Told
held_tells answer = tells (λ yes. cond yes 1 0) answer

-- asking whether a record is held back: 3, 1, 2 or 8, then yes or no
abbrev pub held_of : ℕ → List ℕ → Told
held_of a s =
    if_age a refusal
    (if_whole s refusal (success (cond (held_back a s) 1 0)))
