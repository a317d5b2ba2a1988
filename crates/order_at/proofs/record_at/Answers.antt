-- The record of the parse of the bytes from the offset on. Assumes nothing.
use mathlib.Core.Path.{◌≡◌, sym, ap, ◌∙◌}
use mathlib.Core.List.{List}
use Prim.Native.Nat.{ℕ, min}
use lib.ListN.{length}
use Rattle.std.specs.Prelude.{Result, Ok, Err}
use Rattle.answers.specs.declared.Refusal.{Refusal}
use Rattle.reading.specs.declared.Parsed.{Parsed}
use Rattle.laws.proofs.Lists.{rest, rest_from}
use Rattle.reading.specs.Reading.{ParseOutcome, parsed_outcome, parse_of}
use Rattle.order_at.specs.OrderAt.{plain_at}
use Rattle.order_at.proofs.record_at.Goals as goal

-- what a parse of the bytes from the offset on gives
gives : (s : List ℕ) (offset from : ℕ) (r : Result Parsed Refusal) → from ≡ min offset (length s) → parsed_outcome r ≡ parse_of (rest s from)
    → (parsed_outcome r).gives ≡ plain_at s offset
unfolding plain_at
gives s offset from r h e = ap (λ (o : ParseOutcome). o.gives) e ∙ ap (λ (t : List ℕ). (parse_of t).gives) (rest_from s offset from h)

pub returns-in-Ok : goal.returns-in-Ok
returns-in-Ok c = gives _ _ _ (Ok c.in-Ok.parsed) c.lesser-from.ensures (sym (ap parsed_outcome c.in-Ok.is) ∙ c.parse.ensures)

pub returns-in-Err : goal.returns-in-Err
returns-in-Err c = c.blank.ensures ∙ gives _ _ _ (Err c.in-Err.field-0) c.lesser-from.ensures (sym (ap parsed_outcome c.in-Err.is) ∙ c.parse.ensures)
