-- What a call at an age comes to that goes by a head, for each answer. Assumes nothing.
use Prim.Native.Nat.{ℕ, ◌≤◌}
use mathlib.Core.Path.{◌≡◌, refl, sym, ap, ◌∙◌}
use mathlib.Core.Bool.{Bool, true, false}
use mathlib.Core.List.{List}
use native.Mathlib.Omega.{arith}
use lib.ListN.{length}
use Rattle.answers.specs.declared.Refusal.{Refusal}
use Rattle.std.specs.Prelude.{Result, Ok, Err}
use Rattle.answers.specs.Tells.{success, refusal, told_of}
use Rattle.answers.specs.declared.Told.{Told}
use Rattle.answers.proofs.Exactly.{by_answer}
use Rattle.answers.proofs.OneToOne.{answer_one}
use Rattle.buffer.specs.Put.{Put}
use Rattle.buffer.specs.Written.{outcome, written}
use Rattle.buffer.proofs.Writing.{put_written}
use Rattle.record.specs.Ages.{is_age}
use Rattle.reading.specs.Reading.{ParseOutcome, parse_took, parse_refused, aged, if_age}
use Rattle.reading.proofs.Whole.{age_known, age_unknown}
use Rattle.chunk.specs.Chunk.{header_size, record_part, if_head, chunk_take, chunk_parse}
use Rattle.chunk.proofs.Head.{InHeader, in_header, head_way, chunk_way, chunk_map}

-- an answer of a call at an age that goes by a head alone: so goes every other such call
module _ {A : Type 0} (a : ℕ) (s : List ℕ) (refuse : Refusal → A) (give : A) (answer : Result ℕ Refusal)
    (told : told_of answer ≡ if_age a refusal (if_head s refusal (success (header_size s)))) where
  way_by : (b : Bool) → b ≡ is_age a → if_age a refuse (if_head s refuse give) ≡ by_answer refuse (λ m. give) answer
  way_by true known = age_known a _ _ known ∙ head_way s (header_size s) answer (told ∙ age_known a _ _ known) refuse give
  way_by false unknown =
      age_unknown a _ _ unknown ∙ ap (by_answer refuse (λ m. give)) (sym (answer_one answer (Err Refusal.NotAnAge) (told ∙ age_unknown a _ _ unknown)))

  pub aged_way : if_age a refuse (if_head s refuse give) ≡ by_answer refuse (λ m. give) answer
  aged_way = way_by (is_age a) refl

-- where the header's end is given, the age is one of the twelve and the header stands
pub aged_header : (a : ℕ) (s : List ℕ) (m : ℕ) → success m ≡ if_age a refusal (if_head s refusal (success (header_size s))) → InHeader s m
aged_header a s m told = by (is_age a) refl
  where
    by : (b : Bool) → b ≡ is_age a → InHeader s m
    by true known = in_header s (Ok m) (told ∙ age_known a _ _ known) m refl
    by false unknown = absurd (let z = ap (λ (t : Told). t.number) (told ∙ age_unknown a _ _ unknown) in omega arith)

-- bytes that were put to the front of a lent buffer that holds them, n in all
pub wrote-all : {old w new : List ℕ} {n r : ℕ} → length w ≡ n → n ≤ length old → Put old 0 w new r → outcome (Ok n) new ≡ written w old
wrote-all {new = new} e h p = ap (λ (m : ℕ). outcome (Ok m) new) (sym e) ∙ put_written (omega arith) p

-- `parse_chunk` tells what `take_chunk` tells
pub parse_tells : (a : ℕ) (s : List ℕ) → true ≡ is_age a → (chunk_parse a s).tells ≡ chunk_take s
parse_tells a s known = rw (age_known a _ _ known) (chunk_map (λ (o : ParseOutcome). o.tells) s _ _)

-- where it takes a chunk, it gives the record
pub parse-read : (a : ℕ) (s : List ℕ) (n : ℕ) → true ≡ is_age a → success n ≡ chunk_take s → (chunk_parse a s).gives ≡ aged a (record_part s)
parse-read a s n known e =
    ap (λ (o : ParseOutcome). o.gives)
    (age_known a _ _ known ∙ chunk_way s (Ok n) e parse_refused (λ m. parse_took m (aged a (record_part s))))
