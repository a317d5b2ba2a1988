-- Any two outcomes that a contract of this crate allows for the same input are one. Assumes nothing.
use Prim.Native.Nat.{ℕ}
use mathlib.Core.Path.{◌≡◌}
use mathlib.Core.List.{List}
use Rattle.answers.specs.declared.Counted.{Counted}
use Rattle.std.specs.Prelude.{Result, Ok, Err}
use Rattle.answers.specs.declared.Refusal.{Refusal}
use Rattle.answers.specs.Tells.{told_of}
use Rattle.buffer.specs.Counted.{counted_outcome}
use Rattle.buffer.specs.Written.{outcome}
use Rattle.buffer.proofs.OneOutcome.{one_outcome, one_counted}
use Rattle.reading.specs.declared.Parsed.{Parsed}
use Rattle.reading.specs.Reading.{parsed_outcome}
use Rattle.reading.proofs.OneOutcome.{one_take, one_parse}
use Rattle.chunk.specs.Chunk.{chunk_take, head_outcome, chunk_parse, chunk_counted, chunk_marks}

-- of `take_chunk`: the answer is fixed
pub one_chunk : (bytes : List ℕ) (r s : Result ℕ Refusal) → told_of r ≡ chunk_take bytes → told_of s ≡ chunk_take bytes → r ≡ s
one_chunk bytes r s p q = one_take r s p q

-- of `parse_chunk`: the answer and the record are fixed
pub one_parsed : (a : ℕ) (bytes : List ℕ) (r s : Result Parsed Refusal) → parsed_outcome r ≡ chunk_parse a bytes → parsed_outcome s ≡ chunk_parse a bytes → r ≡ s
one_parsed a bytes r s p q = one_parse r s p q

-- of `chunk_head`, `chunk_text` and `chunk_marks`: the answer and the lent bytes are fixed
pub one_head : (bytes old : List ℕ) (r s : Result ℕ Refusal) (x y : List ℕ)
    → outcome r x ≡ head_outcome bytes old → outcome s y ≡ head_outcome bytes old → (r ≡ s) × (x ≡ y)
one_head bytes old r s x y p q = one_outcome p q

pub one_text : (a : ℕ) (bytes old : List ℕ) (r s : Result Counted Refusal) (x y : List ℕ)
    → counted_outcome r x ≡ chunk_counted a bytes old → counted_outcome s y ≡ chunk_counted a bytes old → (r ≡ s) × (x ≡ y)
one_text a bytes old r s x y p q = one_counted p q

pub one_marks : (a : ℕ) (bytes old : List ℕ) (r s : Result ℕ Refusal) (x y : List ℕ)
    → outcome r x ≡ chunk_marks a bytes old → outcome s y ≡ chunk_marks a bytes old → (r ≡ s) × (x ≡ y)
one_marks a bytes old r s x y p q = one_outcome p q
