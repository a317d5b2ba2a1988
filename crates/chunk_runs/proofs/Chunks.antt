-- A run of chunks: what stands at an offset, and what its reader finds. Assumes nothing.
use Prim.Native.Nat.{ℕ, ◌≤◌}
use mathlib.Core.Path.{◌≡◌, refl, sym, ap, ◌∙◌}
use mathlib.Core.Bool.{true}
use mathlib.Core.List.{List}
use native.Mathlib.Omega.{arith}
use lib.ListN.{length, drop, get_or}
use Rattle.std.specs.Prelude.{Result, Ok, Err}
use Rattle.answers.specs.declared.Refusal.{Refusal}
use Rattle.answers.specs.Tells.{success, told_of}
use Rattle.record.specs.Ages.{is_age}
use Rattle.reading.specs.declared.Parsed.{Parsed}
use Rattle.reading.specs.Reading.{ParseOutcome, parsed_outcome, taken, aged}
use Rattle.runs.specs.declared.Stop.{Stop}
use Rattle.runs.specs.Fronts.{front_of, front_in}
use Rattle.runs.specs.Runs.{step_in}
use Rattle.runs.proofs.Along.{takes_one, not_both, Fits, Run, inside, stands_at, stopped, few, each, Steps}
use Rattle.chunk.specs.Chunk.{chunk_size, record_part, chunk_take, chunk_parse}
use Rattle.chunk.proofs.Answers.{parse_tells, parse-read}
use Rattle.chunk.proofs.Head.{Sized, chunk_way, chunk_says, chunk_answer, chunk_told}
use Rattle.chunk_runs.specs.Chunks.{chunk_front, chunk_at, record_at, chunk_offsets, chunk_stop, chunk_step_of}
use Rattle.chunk_runs.specs.Stops.{NoChunk, WholeChunks}

-- what the answer of `take_chunk` says of the front
chunk_front_lem : (t : List ℕ) (answer : Result ℕ Refusal) → told_of answer ≡ chunk_take t → chunk_front t ≡ front_of answer
chunk_front_lem t (Ok n) e = chunk_way t (Ok n) e (λ why. Err (Stop.Refused why)) Ok
chunk_front_lem t (Err why) e = chunk_way t (Err why) e (λ why. Err (Stop.Refused why)) Ok

-- what takes n bytes is a whole chunk
pub chunk_stands : (t : List ℕ) (n : ℕ) → chunk_front t ≡ Ok n → success n ≡ chunk_take t
chunk_stands t n e = by (chunk_answer t).answer (chunk_told t) where
  by : (answer : Result ℕ Refusal) → told_of answer ≡ chunk_take t → success n ≡ chunk_take t
  by (Ok m) told = ap success (takes_one n m (sym e ∙ chunk_front_lem t (Ok m) told)) ∙ told
  by (Err why) told = absurd (not_both _ n (sym (chunk_front_lem t (Err why) told) ∙ e))

-- its size, its sizes, and the record that it holds
pub chunk_holds : (t : List ℕ) (n : ℕ) → chunk_front t ≡ Ok n → (n ≡ chunk_size t) × Sized t × (taken (record_part t) ≤ length (record_part t))
chunk_holds t n e = chunk_says t (Ok n) (chunk_stands t n e) n refl

pub chunk_fits : Fits chunk_front
chunk_fits t n e =
    let h = chunk_holds t n e in
    let z = h.1 in
    (omega (arith, h.0, z.least, z.header), omega (arith, h.0, z.chunk))

-- a run of chunks is a run of what stands at the front
pub chunk_is : (s : List ℕ) (p : ℕ) → chunk_at s p ≡ front_in chunk_front s p
unfolding chunk_at
chunk_is s p = refl

abbrev pub chunk_run : (s : List ℕ) → Run s
chunk_run s = record { here = chunk_front; front = chunk_at s; is = chunk_is s; fits = chunk_fits }

-- elsewhere than at the exact end it is what `take_chunk` answers
pub chunk_answered : (s : List ℕ) (p : ℕ) → (p ≡ length s → ⊥) → (answer : Result ℕ Refusal) → told_of answer ≡ chunk_take (drop p s) → chunk_at s p ≡ front_of answer
chunk_answered s p inner answer e = inside (chunk_run s) p inner ∙ chunk_front_lem (drop p s) answer e

-- its reader at age a
pub chunk_step_is : (a : ℕ) (s : List ℕ) (p : ℕ) → chunk_step_of a s p ≡ step_in (chunk_at s) (λ q. aged a (record_at s q)) a p
unfolding chunk_step_of
chunk_step_is a s p = refl

abbrev pub chunk_steps : (a : ℕ) (s : List ℕ) → Steps (chunk_run s) a
chunk_steps a s = record { read = λ q. aged a (record_at s q); step = chunk_step_of a s; steps = chunk_step_is a s }

-- what `parse_chunk` gives of the bytes from an offset on
module _ (a : ℕ) (s : List ℕ) (p : ℕ) (known : true ≡ is_age a) (t : List ℕ) (there : t ≡ drop p s) (answer : Result Parsed Refusal) (e : parsed_outcome answer ≡ chunk_parse a t) where
  tells : (parsed_outcome answer).tells ≡ chunk_take (drop p s)
  tells = ap (λ (o : ParseOutcome). o.tells) (e ∙ ap (chunk_parse a) there) ∙ parse_tells a (drop p s) known

  -- it says what stands there
  pub parsed_front : (p ≡ length s → ⊥) → (r : Result ℕ Refusal) → told_of r ≡ (parsed_outcome answer).tells → chunk_at s p ≡ front_of r
  parsed_front inner r is = chunk_answered s p inner r (is ∙ tells)

  -- and its record is that of the chunk
  pub parsed_record : (n : ℕ) → success n ≡ (parsed_outcome answer).tells → (parsed_outcome answer).gives ≡ aged a (record_at s p)
  parsed_record n is =
      ap (λ (o : ParseOutcome). o.gives) (e ∙ ap (chunk_parse a) there) ∙ parse-read a (drop p s) n known (is ∙ tells)

-- where a run stops no whole chunk stands
no_chunk : (s : List ℕ) (p : ℕ) (stop : Stop) → chunk_at s p ≡ Err stop → NoChunk (drop p s)
no_chunk s p stop e = by (chunk_answer (drop p s)).answer (chunk_told (drop p s)) where
  by : (answer : Result ℕ Refusal) → told_of answer ≡ chunk_take (drop p s) → NoChunk (drop p s)
  by (Ok n) told = absurd (not_both stop n (sym e ∙ stands_at (chunk_run s) p n (chunk_front_lem (drop p s) (Ok n) told)))
  by (Err why) told = record { why = why; refused = told }

-- the chunks of a run
pub whole_chunks : (s : List ℕ) (p : ℕ) → WholeChunks s p
whole_chunks s p =
    let w = stopped (chunk_run s) p in
    record {
      each = λ i h.
          let c = each (chunk_run s) p i h in
          let t = drop (get_or (chunk_offsets s p) i 0) s in
          sym (chunk_stands t c.amount c.takes) ∙ ap success (chunk_holds t c.amount c.takes).0;
      stop = no_chunk s (chunk_stop s p) w.stop w.stopped;
      few = few (chunk_run s) p;
    }
