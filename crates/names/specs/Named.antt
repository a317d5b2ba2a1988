-- 02, K5: what the calls on a directory name come to. Assumes nothing.
use Rattle.std.specs.Prelude.{ℕ, List, length}
use Rattle.answers.specs.declared.Refusal.{Refusal}
use Rattle.buffer.specs.Written.{Outcome, written, refused}
use Rattle.record.specs.declared.ResTableConfig.{ResTableConfig}
use Rattle.reading.specs.Reading.{ParseOutcome, parse_took, parse_refused}
use Rattle.writing.specs.Writing.{bytes_written}
use Rattle.grammar.specs.Made.{made}
use Rattle.names.specs.Reading.{Read, read_name}

-- what is given of what was read; 11 comes with the offset at which a name is refused
abbrev pub of_read : {A : Type 0} → (Refusal → A) → (ResTableConfig → A) → Read → A
of_read refuse give (Read.so_far next vs) = give (made vs)
of_read refuse give (Read.refused at) = refuse (Refusal.NotAName at)

-- what is given of the record for which a name stands; 11 comes where it isn't in the grammar
abbrev pub if_name : {A : Type 0} → List ℕ → (Refusal → A) → (ResTableConfig → A) → A
if_name s refuse give = of_read refuse give (read_name s)

-- reading a name: all its bytes are taken, and the record is given; else 11
abbrev pub name_of : List ℕ → ParseOutcome
name_of s = if_name s parse_refused (parse_took (length s))

-- writing the 64 bytes of the record for which a name stands: 11, then 5
abbrev pub name_written : List ℕ → List ℕ → Outcome
name_written s old = if_name s (λ why. refused why old) (λ r. written (bytes_written r) old)
