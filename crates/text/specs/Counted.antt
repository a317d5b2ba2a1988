-- 02, K1: the replacements that go along with a text, and the call for them alone. Assumes nothing.
use Rattle.std.specs.Prelude.{ℕ, List, cond}
use Rattle.answers.specs.declared.Refusal.{Refusal}
use Rattle.answers.specs.declared.Told.{Told}
use Rattle.answers.specs.Tells.{success, refusal}
use Rattle.buffer.specs.Counted.{CountedOutcome, counting}
use Rattle.locale.specs.Subtags.{text_replacements}
use Rattle.reading.specs.Reading.{plain, aged, if_whole, if_age}
use Rattle.marking.specs.Marks.{held_back}
use Rattle.text.specs.Text.{plain_text, aged_text}

-- a plain text, with its replacements
abbrev pub counted_plain : List ℕ → List ℕ → CountedOutcome
counted_plain s old = counting (text_replacements (plain s)) (plain_text s old)

-- a text for a reader of age a, with its replacements
abbrev pub counted_aged : ℕ → List ℕ → List ℕ → CountedOutcome
counted_aged a s old = counting (text_replacements (aged a s)) (aged_text a s old)

-- how many replacements the text for a reader of age a has: 3, 1, 2 or 8, then 4
abbrev pub replacements_of : ℕ → List ℕ → Told
replacements_of a s = if_age a refusal (if_whole s refusal (cond (held_back a s) (refusal Refusal.HeldBack) (success (text_replacements (aged a s)))))
