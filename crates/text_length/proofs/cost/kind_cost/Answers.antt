-- A kind adds nothing where it is not said. Assumes nothing.
use mathlib.Core.Path.{sym, ◌∙◌}
use native.Mathlib.Omega.{arith}
use Rattle.places.specs.Places.{kind_place}
use Rattle.text_length.proofs.Total.{said_adds, silent_adds}
use Rattle.text_length.proofs.cost.kind_cost.Goals as goal

pub returns-then-is_said-clause-result_value : goal.returns-then-is_said-clause-result_value
returns-then-is_said-clause-result_value g c =
    let said = sym (g.met.K.Said.said_alike c.args.kind) ∙ sym c.is_said.ensures ∙ c.if-is_said.true in
    said_adds (kind_place (g.K.Said.as_kind c.args.kind)) said (omega (arith, rw c.as_kind.ensures at c.words_length.ensures.value))

pub returns-then-is_said-clause-upper_bound : goal.returns-then-is_said-clause-upper_bound
returns-then-is_said-clause-upper_bound g c = omega (arith, c.words_length.ensures.upper_bound)

pub returns-else-is_said-clause-result_value : goal.returns-else-is_said-clause-result_value
returns-else-is_said-clause-result_value g c =
    silent_adds (kind_place (g.K.Said.as_kind c.args.kind)) (sym (g.met.K.Said.said_alike c.args.kind) ∙ sym c.is_said.ensures ∙ c.if-is_said.false)
