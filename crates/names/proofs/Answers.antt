-- What writing a name's record comes to, for each answer of reading the name. Assumes nothing.
use Prim.Native.Nat.{ℕ}
use mathlib.Core.Path.{◌≡◌, refl, ap, ◌∙◌}
use lib.ListN.{length}
use mathlib.Core.Bool.{true}
use mathlib.Core.List.{List}
use native.Mathlib.Omega.{arith}
use Rattle.answers.specs.declared.Refusal.{Refusal}
use Rattle.std.specs.Prelude.{Result, Ok, Err}
use Rattle.answers.proofs.OneToOne.{number_pos}
use Rattle.buffer.specs.Written.{Outcome, written, refused}
use Rattle.record.specs.declared.ResTableConfig.{ResTableConfig}
use Rattle.reading.specs.declared.Parsed.{Parsed}
use Rattle.reading.specs.Reading.{ParseOutcome, parsed_outcome, parse_took, parse_refused, reads}
use Rattle.writing.specs.Writing.{bytes_written, tidy, write_of}
use Rattle.grammar.specs.Made.{made}
use Rattle.names.specs.Reading.{Read, read_name}
use Rattle.names.specs.Named.{of_read, name_of, name_written}

-- every field of a name's record is read at its size
pub made_tidy : (vs : List ℕ) → tidy (made vs) ≡ true
unfolding tidy made reads
made_tidy vs = refl

-- so the writer takes it
pub made-written : (vs old : List ℕ) → write_of (made vs) old ≡ written (bytes_written (made vs)) old
unfolding write_of
made-written vs old = rw (made_tidy vs)

-- what a name's record comes to when it is written, or why the name is refused
abbrev written-by : List ℕ → Result Parsed Refusal → Outcome
written-by old (Ok p) = write_of p.«record» old
written-by old (Err why) = refused why old

-- what was read says what is written
module _ (s old : List ℕ) where
  by_read : (r : Read) → (a : Result Parsed Refusal) → parsed_outcome a ≡ of_read parse_refused (parse_took (length s)) r
      → written-by old a ≡ of_read (λ why. refused why old) (λ q. written (bytes_written q) old) r
  by_read (Read.so_far next vs) (Ok p) e = ap (λ (x : ParseOutcome). write_of x.gives old) e ∙ made-written vs old
  by_read (Read.so_far next vs) (Err why) e = absurd (omega (arith, number_pos why, ap (λ (x : ParseOutcome). x.tells.number) e))
  by_read (Read.refused o) (Ok p) e = absurd (omega (arith, number_pos (Refusal.NotAName o), ap (λ (x : ParseOutcome). x.tells.number) e))
  by_read (Read.refused o) (Err why) e = ap (λ (x : ParseOutcome). record { tells = x.tells; leaves = old }) e

  pub name-written : (a : Result Parsed Refusal) → parsed_outcome a ≡ name_of s → written-by old a ≡ name_written s old
  name-written a e = by_read (read_name s) a e
