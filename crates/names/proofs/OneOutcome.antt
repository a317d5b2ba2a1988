-- Any two outcomes that a contract of this crate allows for the same input are one. Assumes nothing.
use Prim.Native.Nat.{ℕ}
use mathlib.Core.Path.{◌≡◌}
use mathlib.Core.List.{List}
use Rattle.std.specs.Prelude.{Result, Ok, Err}
use Rattle.answers.specs.declared.Refusal.{Refusal}
use Rattle.buffer.specs.Written.{outcome}
use Rattle.buffer.proofs.OneOutcome.{one_outcome}
use Rattle.reading.specs.declared.Parsed.{Parsed}
use Rattle.reading.specs.Reading.{parsed_outcome}
use Rattle.reading.proofs.OneOutcome.{one_parse}
use Rattle.names.specs.Named.{name_of, name_written}

-- of `read_name`: the answer and the record are fixed
pub one_read_name : (s : List ℕ) (r q : Result Parsed Refusal) → parsed_outcome r ≡ name_of s → parsed_outcome q ≡ name_of s → r ≡ q
one_read_name s r q e f = one_parse r q e f

-- of `write_name`: the answer and the lent bytes are fixed
pub one_write_name : (s old : List ℕ) (v w : Result ℕ Refusal) (x y : List ℕ) → outcome v x ≡ name_written s old → outcome w y ≡ name_written s old → (v ≡ w) × (x ≡ y)
one_write_name s old v w x y e f = one_outcome e f
