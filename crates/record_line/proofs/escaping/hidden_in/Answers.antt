-- Each byte takes one, and two more where it is counted. Assumes nothing.
use mathlib.Core.Path.{◌≡◌}
use mathlib.Core.Bool.{not}
use borrow.Author.Rules.{rules}
use native.Mathlib.Omega.{arith}
use Rattle.std.proofs.Common.{count_by}
use Rattle.record_line.specs.RecordLine.{visible}
use Rattle.record_line.proofs.Escapes.{hidden_count}
use Rattle.record_line.proofs.escaping.hidden_in.Goals as goal

pub returns : goal.returns
returns c =
    let hidden : c.count.result ≡ count_by (λ b. not (visible b)) c.args.text.now = search rules in
    omega (arith, hidden, hidden_count c.args.text.now)
