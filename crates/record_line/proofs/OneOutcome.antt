-- Any two outcomes that the contract allows for the same input are one. Assumes nothing.
use Prim.Native.Nat.{ℕ}
use mathlib.Core.Path.{◌≡◌}
use mathlib.Core.List.{List}
use Rattle.std.specs.Prelude.{Result}
use Rattle.answers.specs.declared.Refusal.{Refusal}
use Rattle.buffer.specs.Written.{outcome}
use Rattle.buffer.proofs.OneOutcome.{one_outcome}
use Rattle.record_line.specs.RecordLine.{record_line_of}

-- of `record_line`: the answer and the lent bytes are fixed
pub one_record_line : (a index offset : ℕ) (bytes old : List ℕ) {r s : Result ℕ Refusal} {x y : List ℕ}
    → outcome r x ≡ record_line_of a index offset bytes old → outcome s y ≡ record_line_of a index offset bytes old → (r ≡ s) × (x ≡ y)
one_record_line a index offset bytes old p q = one_outcome p q
