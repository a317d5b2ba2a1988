-- What a text call comes to, for each of its answers. Assumes nothing.
use Prim.Native.Nat.{ℕ, ◌≤◌}
use mathlib.Core.Path.{◌≡◌, refl, sym, ap, ap₂, ◌∙◌}
use mathlib.Core.Bool.{cond}
use mathlib.Core.List.{List}
use lib.ListN.{length}
use Rattle.laws.proofs.Choice.{chosen}
use Rattle.std.specs.Prelude.{Result, Ok, Err}
use Rattle.answers.specs.declared.Refusal.{Refusal}
use Rattle.answers.specs.declared.Told.{Told}
use Rattle.answers.specs.Tells.{success, refusal}
use Rattle.buffer.specs.Counted.{counted_outcome, counting}
use Rattle.buffer.specs.Put.{Put}
use Rattle.buffer.specs.Written.{Outcome, outcome, written, refused}
use Rattle.buffer.proofs.Counting.{answer_counted}
use Rattle.buffer.proofs.Putting.{front_ends}
use Rattle.buffer.proofs.Writing.{put_written}
use Rattle.record.specs.declared.ResTableConfig.{ResTableConfig}
use Rattle.reading.specs.declared.Parsed.{Parsed}
use Rattle.reading.specs.Reading.{ParseOutcome, parsed_outcome, parse_of, take_of, plain, aged, if_whole, if_age}
use Rattle.reading.proofs.Exactly.{parse_tells}
use Rattle.reading.proofs.Whole.{age_map, age_same, whole_map, whole_same, cond_map, took_whole}
use Rattle.marking.specs.Marks.{held_back}
use Rattle.locale.specs.Subtags.{text_replacements}
use Rattle.places.specs.Places.{text_of}
use Rattle.text.specs.Text.{plain_text, aged_text, shown_of}
use Rattle.text.specs.Counted.{counted_plain, counted_aged, replacements_of}

-- a text that was put into the lent buffer itself, which holds it
pub put-fits : {old : List ℕ} {w : List ℕ} {new : List ℕ} {r : ℕ} → length w ≤ length old → Put old 0 w new r → outcome (Ok r) new ≡ written w old
put-fits h p = rw (front_ends p h) (put_written h p)

-- a refused call, by its outcome: it made no replacement
pub refused-counted : (why : Refusal) {old : List ℕ} {o : Outcome} (n : ℕ) → refused why old ≡ o → counted_outcome (Err why) old ≡ counting n o
refused-counted why n e = answer_counted n (Err why) e

module _ (s old : List ℕ) where
  -- parsing refuses with 1, 2 or 8
  pub plain-refused : (why : Refusal) → parsed_outcome (Err why) ≡ parse_of s → refusal why ≡ take_of s
  plain-refused why e = ap (λ (o : ParseOutcome). o.tells) e ∙ parse_tells s

  -- else the text of what parsing gives
  pub plain-whole : (p : Parsed) → parsed_outcome (Ok p) ≡ parse_of s
      → counting (text_replacements p.«record») (written (text_of p.«record») old) ≡ counted_plain s old
  plain-whole p e =
      let t : success p.taken ≡ take_of s = ap (λ (o : ParseOutcome). o.tells) e ∙ parse_tells s in
      let gives : p.«record» ≡ plain s = ap (λ (o : ParseOutcome). o.gives) (e ∙ took_whole s _ _ p.taken t) in
      rw gives (ap (counting (text_replacements (plain s))) (sym (took_whole s _ _ p.taken t)))

-- a call that goes on with what a reader is shown, or with why it isn't
pub shown_goes : {A : Type 0} (go : Result ResTableConfig Refusal → A) (a : ℕ) (s : List ℕ)
    → go (shown_of a s) ≡ if_age a (λ why. go (Err why)) (if_whole s (λ why. go (Err why)) (cond (held_back a s) (go (Err Refusal.HeldBack)) (go (Ok (aged a s)))))
shown_goes go a s =
    age_map go a Err _
    ∙ ap (if_age a (λ why. go (Err why))) (whole_map go s Err _ ∙ ap (if_whole s (λ why. go (Err why))) (cond_map go (held_back a s) _ _))

-- what is shown is the reading at the age
abbrev shown_or : ResTableConfig → Result ResTableConfig Refusal → ResTableConfig
shown_or x (Ok r) = r
shown_or x (Err why) = x

pub shown_is : (a : ℕ) (s : List ℕ) (r : ResTableConfig) → Ok r ≡ shown_of a s → r ≡ aged a s
shown_is a s r e =
    ap (shown_or (aged a s)) e ∙ shown_goes (shown_or (aged a s)) a s
    ∙ ap (if_age a (λ why. aged a s)) (ap (if_whole s (λ why. aged a s)) (chosen (λ x. x ≡ aged a s) (held_back a s) refl refl) ∙ whole_same s (aged a s))
    ∙ age_same a (aged a s)

-- the text of what is shown
abbrev text_by : List ℕ → Result ResTableConfig Refusal → Outcome
text_by old (Ok r) = written (text_of r) old
text_by old (Err why) = refused why old

pub aged-whole : (a : ℕ) (s old : List ℕ) (r : ResTableConfig) → Ok r ≡ shown_of a s
    → counting (text_replacements r) (written (text_of r) old) ≡ counted_aged a s old
aged-whole a s old r e = ap₂ counting (ap text_replacements (shown_is a s r e)) (ap (text_by old) e ∙ shown_goes (text_by old) a s)

pub aged-refused : (a : ℕ) (s old : List ℕ) (why : Refusal) → Err why ≡ shown_of a s → counted_outcome (Err why) old ≡ counted_aged a s old
aged-refused a s old why e = refused-counted why (text_replacements (aged a s)) (ap (text_by old) e ∙ shown_goes (text_by old) a s)

-- its replacements
abbrev count_by : Result ResTableConfig Refusal → Told
count_by (Ok r) = success (text_replacements r)
count_by (Err why) = refusal why

pub count-shown : (a : ℕ) (s : List ℕ) (r : Result ResTableConfig Refusal) → r ≡ shown_of a s → count_by r ≡ replacements_of a s
count-shown a s r e = ap count_by e ∙ shown_goes count_by a s
