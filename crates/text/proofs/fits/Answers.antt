-- No text is longer than 344 bytes; of less room the text's length decides. Assumes nothing.
use mathlib.Core.Path.{sym}
use native.Mathlib.Omega.{arith}
use borrow.Author.Rules.{rules}
use borrow.Author.Tests.{le-leb}
use lib.ListN.{length}
use Rattle.places.specs.Places.{text_of}
use Rattle.text.proofs.Long.{text_long}
use Rattle.text.proofs.fits.Goals as goal

pub returns-then-room-ge-LONGEST_TEXT : goal.returns-then-room-ge-LONGEST_TEXT
returns-then-room-ge-LONGEST_TEXT c = sym (le-leb (length (text_of c.args.r)) c.args.room (omega (arith, text_long c.args.r _ c.well_formed.0)))
