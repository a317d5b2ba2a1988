-- What each entry answers, from what the calls under it answer. Assumes nothing.
use Prim.Native.Nat.{ℕ}
use mathlib.Core.Path.{◌≡◌, ap, ◌∙◌}
use mathlib.Core.List.{List}
use Rattle.std.specs.Prelude.{Result, Ok, Err}
use Rattle.answers.specs.declared.Counted.{Counted}
use Rattle.answers.specs.declared.Refusal.{Refusal}
use Rattle.answers.specs.declared.Told.{Told}
use Rattle.answers.specs.Counted.{written_by}
use Rattle.answers.specs.Tells.{success, refusal, tells, told_of}
use Rattle.answers.proofs.OneToOne.{counted_tells}
use Rattle.buffer.specs.Counted.{CountedOutcome, counted_outcome}
use Rattle.buffer.specs.Written.{Outcome, outcome}
use Rattle.reading.specs.declared.Parsed.{Parsed}
use Rattle.reading.specs.Reading.{ParseOutcome, parsed_outcome, parse_of, take_of, plain}
use Rattle.reading.proofs.Exactly.{parse_tells}
use Rattle.reading.proofs.Whole.{took_whole}
use Rattle.res_table_config.specs.Face.{answer_tells, answer_outcome}
use Rattle.res_table_config.specs.Small.{Small}

-- what is told has room in an answer
pub fits : (t u : Told) → t ≡ u → Small u → Small t
fits t u e small = rw e small

-- of a call that writes: o is its outcome
module _ (w : Result ℕ Refusal) (new : List ℕ) (o : Outcome) (e : outcome w new ≡ o) where
  pub written_fits : Small o.tells → Small (told_of w)
  written_fits = fits (told_of w) o.tells (ap (λ (x : Outcome). x.tells) e)

  pub written-told : (r : ℕ) → answer_tells r ≡ told_of w → answer_outcome r new ≡ o
  written-told r g = ap (λ (u : Told). record { tells = u; leaves = new }) g ∙ e

-- of a call that writes a text: what it comes to without the replacements
module _ (w : Result Counted Refusal) (new : List ℕ) (o : CountedOutcome) (e : counted_outcome w new ≡ o) where
  does : outcome (written_by w) new ≡ o.does
  does = ap (λ (x : CountedOutcome). x.does) e

  pub counted_fits : Small o.does.tells → Small (tells (λ (c : Counted). c.length) w)
  counted_fits small = fits _ _ (counted_tells w) (written_fits (written_by w) new o.does does small)

  pub counted-told : (r : ℕ) → answer_tells r ≡ tells (λ (c : Counted). c.length) w → answer_outcome r new ≡ o.does
  counted-told r g = written-told (written_by w) new o.does does r (g ∙ counted_tells w)

-- a parse: its refusal, or its record
pub parse-refused : (s : List ℕ) (why : Refusal) → parsed_outcome (Err why) ≡ parse_of s → refusal why ≡ take_of s
parse-refused s why e = ap (λ (o : ParseOutcome). o.tells) e ∙ parse_tells s

pub parse-took : (s : List ℕ) (p : Parsed) → parsed_outcome (Ok p) ≡ parse_of s → (success p.taken ≡ take_of s) × (p.«record» ≡ plain s)
parse-took s p e =
    let t : success p.taken ≡ take_of s = ap (λ (o : ParseOutcome). o.tells) e ∙ parse_tells s in
    (t, ap (λ (o : ParseOutcome). o.gives) (e ∙ took_whole s _ _ p.taken t))
