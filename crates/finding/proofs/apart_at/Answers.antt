-- The loop passes the bytes that are the key's: what is left agrees as the whole does. Assumes nothing.
use mathlib.Core.Path.{sym, ◌∙◌}
use native.Mathlib.Omega.{arith}
use borrow.Author.Tests.{ne_eqb}
use Rattle.finding.proofs.Seeking.{byte_apart, byte_passed, all_passed}
use Rattle.finding.proofs.apart_at.Goals as goal

pub returns-then-entries-at : goal.returns-then-entries-at
returns-then-entries-at c = (omega arith, byte_apart c.args.entries.now c.args.at c.args.key.now c.loop-i.i (omega arith) c.if-entries-at.true ∙ sym (ne_eqb c.loop-i.i 60 (λ e. omega arith)))

pub loop-i-preserved : goal.loop-i-preserved
loop-i-preserved c = c.loop-i.invariant ∙ byte_passed c.args.entries.now c.args.at c.args.key.now c.requires.0 c.requires.1 c.loop-i.i (omega arith) c.if-entries-at.false

pub returns : goal.returns
returns c = (omega arith, c.loop-i.invariant ∙ all_passed c.args.entries.now c.args.at c.args.key.now c.requires.0 c.requires.1 c.loop-i.i (omega arith))
