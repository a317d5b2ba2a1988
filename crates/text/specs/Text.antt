-- 01, "Text" and "Numbers given back": what a text call comes to. Assumes nothing.
use Rattle.std.specs.Prelude.{ℕ, List, cond, Result, Ok, Err}
use Rattle.answers.specs.declared.Refusal.{Refusal}
use Rattle.buffer.specs.Written.{Outcome, written, refused}
use Rattle.places.specs.Places.{text_of}
use Rattle.record.specs.declared.ResTableConfig.{ResTableConfig}
use Rattle.reading.specs.Reading.{plain, aged, if_whole, if_age}
use Rattle.marking.specs.Marks.{held_back}

-- the plain text of the record at the front of bytes s: 1, 2 or 8, then 5
abbrev pub plain_text : List ℕ → List ℕ → Outcome
plain_text s old = if_whole s (λ why. refused why old) (written (text_of (plain s)) old)

-- its text for a reader of age a: 3, 1, 2 or 8, 4, then 5
abbrev pub aged_text : ℕ → List ℕ → List ℕ → Outcome
aged_text a s old =
    if_age a (λ why. refused why old)
    (if_whole s (λ why. refused why old)
    (cond (held_back a s) (refused Refusal.HeldBack old) (written (text_of (aged a s)) old)))

-- the record at the front of bytes s as a reader of age a is shown it: 3, 1, 2 or 8, then 4
abbrev pub shown_of : ℕ → List ℕ → Result ResTableConfig Refusal
shown_of a s = if_age a Err (if_whole s Err (cond (held_back a s) (Err Refusal.HeldBack) (Ok (aged a s))))
