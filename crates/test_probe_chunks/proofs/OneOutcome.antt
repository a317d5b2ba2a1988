-- Any two outcomes that a contract of this crate allows for the same input are one: of `probe_chunk_stop`, `probe_chunk_end`, `probe_chunks`,
-- `probe_chunk_next` and `probe_chunk_read_next` by `one_answer` of answers. Assumes nothing.
use Prim.Native.Nat.{ℕ}
use mathlib.Core.Path.{◌≡◌, sym, ◌∙◌}
use mathlib.Core.List.{List}
use Rattle.answers.specs.Tells.{packed_of}
use Rattle.record.specs.declared.ResTableConfig.{ResTableConfig}
use Rattle.runs.specs.Fronts.{StepOutcome}
use Rattle.writing.specs.Writing.{write_of}

-- of `probe_chunk_step` and `probe_chunk_read`, whatever their step o is defined to be: the answer and the lent bytes are fixed
pub one_shown : (o : StepOutcome ResTableConfig) (old : List ℕ) (r s : ℕ) (x y : List ℕ)
    → (r ≡ packed_of o.tells) × (x ≡ (write_of o.gives old).leaves) → (s ≡ packed_of o.tells) × (y ≡ (write_of o.gives old).leaves)
    → (r ≡ s) × (x ≡ y)
one_shown o old r s x y p q = (p.0 ∙ sym q.0, p.1 ∙ sym q.1)
