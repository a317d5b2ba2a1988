-- The loop passes the rows that aren't cut, so it stops at the least that is. Assumes nothing.
use mathlib.Core.Path.{sym, ◌∙◌}
use native.Mathlib.Omega.{arith}
use Rattle.reading.proofs.Cut.{lacking_row, lacking_none}
use Rattle.reading.proofs.lacking.Goals as goal

pub returns-then-is_cut : goal.returns-then-is_cut
returns-then-is_cut c = sym (lacking_row c.args.n c.args.size c.loop-row.row (omega arith)
    (record { holds = sym c.is_cut.ensures ∙ c.if-is_cut.true; first = c.loop-row.invariant }))

pub returns : goal.returns
returns c = sym (lacking_none c.args.n c.args.size (λ g h. c.loop-row.invariant g (omega arith)))
