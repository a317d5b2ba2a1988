-- The text of a name's record is the name again, its bytes are the record again, and the default age shows it. Assumes nothing.
use Prim.Native.Nat.{ℕ}
use mathlib.Core.Path.{◌≡◌, refl, sym, ◌∙◌}
use mathlib.Core.Bool.{false}
use mathlib.Core.List.{List}
use Rattle.record.specs.Ages.{default_age}
use Rattle.reading.specs.Reading.{reads, parse_of, parse_took}
use Rattle.marking.specs.Marks.{held_back}
use Rattle.writing.specs.Writing.{bytes_of, laid, bytes_written}
use Rattle.writing.proofs.Back.{back}
use Rattle.grammar.specs.Made.{made}
use Rattle.grammar.proofs.Text as text
use Rattle.names.specs.Claims.{NameAgain, OneName, RecordAgain, NameShown}
use Rattle.names.proofs.Answers.{made_tidy}
use Rattle.names.proofs.Exactly.{made_shaped}

-- the text of a name's record is the name
pub name_again : NameAgain
name_again s r n = text.name_again s r n

-- so no record has two names
pub one_name : OneName
one_name s t r n m = sym (name_again s r n) ∙ name_again t r m

made_again : (vs : List ℕ) → parse_of (bytes_written (made vs)) ≡ parse_took 64 (made vs)
unfolding made
made_again vs = back (made vs) (made_shaped vs) (made_tidy vs)

-- the bytes of a name's record are parsed to the same record
pub record_again : RecordAgain
record_again s r n = rw n.stands (made_again _)

made_shown : (vs : List ℕ) → held_back default_age (bytes_written (made vs)) ≡ false
unfolding made held_back laid bytes_of reads
made_shown vs = refl

-- what no name names is zero, and so is all that the default age doesn't know
pub name_shown : NameShown
name_shown s r n = rw n.stands (made_shown _)
