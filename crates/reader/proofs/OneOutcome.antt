-- Any two outcomes that a contract of the run reader allows for the same input are one. `read_at` has the contract of `step_at`:
-- `one_step` is its theorem. Assumes nothing.
use Prim.Native.Nat.{ℕ}
use mathlib.Core.Path.{◌≡◌}
use mathlib.Core.List.{List}
use denote.Ref.{Bor}
use Rattle.answers.proofs.OneOutcome.{one_answer}
use Rattle.record.specs.declared.ages.Age.{Age}
use Rattle.runs.specs.declared.Stepped.{Stepped}
use Rattle.reader.specs.declared.RunReader.{RunReader}
use Rattle.reader.specs.Reader.{reader_at, reader_of}
use Rattle.runs.specs.Runs.{step_of, step_outcome}
use Rattle.runs.proofs.OneOutcome.{one_step}

-- of `new_at` and of `moved`: the reader is fixed
pub one_reader : (b : Bor (List ℕ)) (p : ℕ) (a : Age) (r s : RunReader) → r ≡ reader_at b p a → s ≡ reader_at b p a → r ≡ s
one_reader b p a r s e f = one_answer (reader_at b p) a r s e f

-- of `new`
pub one_front : (b : Bor (List ℕ)) (r s : RunReader) → r ≡ reader_of b → s ≡ reader_of b → r ≡ s
one_front b r s e f = one_answer reader_of b r s e f

-- of `next`: the answer, the offset and the record are fixed
pub one_next : (d : RunReader) (r s : Stepped)
    → step_outcome r ≡ step_of d.age.0 d.bytes.now d.offset → step_outcome s ≡ step_of d.age.0 d.bytes.now d.offset → r ≡ s
one_next d r s e f = one_step d.age.0 d.bytes.now d.offset r s e f
