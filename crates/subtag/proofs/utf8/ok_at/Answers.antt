-- `ok_at` tests one byte. Assumes nothing.
use Rattle.subtag.specs.Utf8.{ok_at}
use borrow.Author.Tests.{lt-ltb, le-ltb, le-leb, lt-leb}
use Rattle.subtag.proofs.utf8.ok_at.Goals as goal

pub returns-then-b-hi : goal.returns-then-b-hi
unfolding ok_at
returns-then-b-hi c = simp (lt-ltb _ _ c.if-i-s.true, le-leb _ _ c.if-b-hi.true)

pub returns-else-b-hi : goal.returns-else-b-hi
unfolding ok_at
returns-else-b-hi c = simp (lt-ltb _ _ c.if-i-s.true, lt-leb _ _ c.if-b-hi.false)

pub returns-else-i-s : goal.returns-else-i-s
unfolding ok_at
returns-else-i-s c = simp (le-ltb _ _ c.if-i-s.false)
