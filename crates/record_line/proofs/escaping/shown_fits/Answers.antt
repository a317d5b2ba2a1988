-- Each way out gives what the words take. Assumes nothing.
use mathlib.Core.Path.{sym}
use native.Mathlib.Omega.{arith}
use lib.ListN.{length}
use borrow.Author.Rules.{rules}
use borrow.Author.Tests.{le-leb, lt-leb}
use Rattle.record_line.specs.RecordLine.{escaped_all}
use Rattle.record_line.proofs.Escapes.{escaped_least, escaped_long, shown_none, shown_some, hidden_fits}
use Rattle.record_line.proofs.escaping.shown_fits.Goals as goal

pub returns-then-n-eq0 : goal.returns-then-n-eq0
returns-then-n-eq0 c = rw (c.if-held.false, shown_none _ c.if-n-eq0.true) (search rules)

pub returns-then-n-room : goal.returns-then-n-room
returns-then-n-room c = rw (c.if-held.false, shown_some _ c.if-n-eq0.false)
    (sym (le-leb (length (escaped_all c.args.text.now)) c.args.room (omega (arith, c.if-n-room.true, escaped_long c.args.text.now))))

pub returns-then-room-n : goal.returns-then-room-n
returns-then-room-n c = rw (c.if-held.false, shown_some _ c.if-n-eq0.false)
    (sym (lt-leb (length (escaped_all c.args.text.now)) c.args.room (omega (arith, c.if-room-n.true, escaped_least c.args.text.now))))

pub returns : goal.returns
returns c = rw (c.if-held.false, shown_some _ c.if-n-eq0.false) (hidden_fits _ _ _ _ c.hidden_in.ensures c.if-room-n.false)
