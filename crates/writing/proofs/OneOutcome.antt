-- Any two outcomes that a contract of this crate allows for the same input are one. Assumes nothing.
use Prim.Native.Nat.{ℕ}
use mathlib.Core.Path.{◌≡◌}
use mathlib.Core.List.{List}
use Rattle.std.specs.Prelude.{Result, Ok, Err}
use Rattle.answers.specs.declared.Refusal.{Refusal}
use Rattle.buffer.specs.Written.{outcome}
use Rattle.buffer.proofs.OneOutcome.{one_outcome}
use Rattle.record.specs.declared.ResTableConfig.{ResTableConfig}
use Rattle.writing.specs.Writing.{write_of}

-- of `write`: the answer and the lent bytes are fixed
pub one_write : (r : ResTableConfig) (old : List ℕ) (v w : Result ℕ Refusal) (x y : List ℕ)
    → outcome v x ≡ write_of r old → outcome w y ≡ write_of r old → (v ≡ w) × (x ≡ y)
one_write r old v w x y p q = one_outcome p q
