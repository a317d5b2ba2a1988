-- 02, K1: the one outcome of every call that writes a text. How many replacements the text has goes along with it. Assumes nothing.
use Rattle.std.specs.Prelude.{ℕ, List, cond, eqb, Result}
use Rattle.answers.specs.declared.Counted.{Counted}
use Rattle.answers.specs.declared.Refusal.{Refusal}
use Rattle.answers.specs.Counted.{written_by, replacements_by}
use Rattle.buffer.specs.Written.{Outcome, outcome}

-- what a call comes to that writes a text, and the replacements that it tells
pub record CountedOutcome : Type 0 where
  pub does : Outcome
  pub replacements : ℕ

-- what an answer with its number of replacements and a buffer come to
abbrev pub counted_outcome : Result Counted Refusal → List ℕ → CountedOutcome
counted_outcome answer buffer = record { does = outcome (written_by answer) buffer; replacements = replacements_by answer }

-- a call that comes to o tells the n replacements of its text where it succeeds; a refused call made none
abbrev pub counting : ℕ → Outcome → CountedOutcome
counting n o = record { does = o; replacements = cond (eqb o.tells.number 0) n 0 }
