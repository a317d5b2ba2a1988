-- The calls on a name give each number exactly under its condition. Assumes nothing.
use Prim.Native.Nat.{ℕ}
use mathlib.Core.Path.{◌≡◌, refl, subst}
use mathlib.Core.List.{List, [], ◌∷◌}
use lib.ListN.{length}
use Rattle.answers.proofs.Exactly.{Goes, none_left, one_more, row_exactly}
use Rattle.buffer.specs.Demand1.{shorter_than}
use Rattle.buffer.specs.Written.{wrote, refused, written}
use Rattle.buffer.proofs.Exactly.{refuses_by, written_row}
use Rattle.record.specs.Blank.{blank_record}
use Rattle.record.specs.Shape.{Shaped}
use Rattle.reading.specs.Reading.{ParseOutcome, parse_took, parse_refused}
use Rattle.writing.specs.Writing.{bytes_written}
use Rattle.writing.proofs.Offsets.{written_long}
use Rattle.grammar.specs.Made.{made}
use Rattle.names.specs.Reading.{Read, read_name}
use Rattle.names.specs.Named.{of_read}
use Rattle.names.specs.Demand1.{stopped_at, NameRefuses, NameWriteRefuses}

-- a name's record has arrays of the lengths of their types
pub made_shaped : (vs : List ℕ) → Shaped (made vs)
unfolding made
made_shaped vs = record { script = refl; variant = refl; numbering = refl; padding = refl }

-- and 64 bytes
pub made_long : (vs : List ℕ) → length (bytes_written (made vs)) ≡ 64
unfolding made
made_long vs = written_long (made vs) (made_shaped vs)

-- reading goes by 11
read_row : (n : ℕ) (r : Read) → Goes (stopped_at r ∷ []) parse_refused (of_read (λ why. parse_took n blank_record) (parse_took n) r) (of_read parse_refused (parse_took n) r)
read_row n (Read.so_far next vs) = one_more _ none_left
read_row n (Read.refused o) = record { by = refl }

-- what it gives where it isn't refused tells a success
read_good : (n : ℕ) (r : Read) → (of_read (λ why. parse_took n blank_record) (parse_took n) r).tells.number ≡ 0
read_good n (Read.so_far next vs) = refl
read_good n (Read.refused o) = refl

-- `read_name`: 11
pub name_exactly : (s : List ℕ) → NameRefuses s
name_exactly s = row_exactly (λ (o : ParseOutcome). o.tells) parse_refused _ (λ why. refl) (read_good (length s) (read_name s)) (read_row (length s) (read_name s))

-- writing goes by 11 and 5
write_row : (old : List ℕ) (r : Read) → Goes (stopped_at r ∷ shorter_than 64 old ∷ []) (λ why. refused why old)
    (of_read (λ why. wrote [] old) (λ c. wrote (bytes_written c) old) r) (of_read (λ why. refused why old) (λ c. written (bytes_written c) old) r)
write_row old (Read.so_far next vs) =
    one_more _ (subst (λ (n : ℕ). Goes (shorter_than n old ∷ []) (λ why. refused why old) (wrote (bytes_written (made vs)) old) (written (bytes_written (made vs)) old))
    (made_long vs) (written_row (bytes_written (made vs)) old))
write_row old (Read.refused o) = record { by = refl }

write_good : (old : List ℕ) (r : Read) → (of_read (λ why. wrote [] old) (λ c. wrote (bytes_written c) old) r).tells.number ≡ 0
write_good old (Read.so_far next vs) = refl
write_good old (Read.refused o) = refl

-- `write_name`: 11, 5
pub name_write_exactly : (s old : List ℕ) → NameWriteRefuses s old
name_write_exactly s old = refuses_by (write_good old (read_name s)) (write_row old (read_name s))
