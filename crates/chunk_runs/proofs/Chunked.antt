-- A run of records, each put into a chunk, gives the same records, texts and marks. Assumes nothing.
use Prim.Native.Nat.{ℕ, zero, suc, ◌+◌, ◌-◌, ◌/◌, ◌%◌, ◌≤◌, ◌<◌}
use mathlib.Core.Path.{◌≡◌, refl, sym, ap, ◌∙◌}
use mathlib.Core.Bool.{Bool, true, false}
use mathlib.Core.List.{List, [], ◌∷◌, ◌++◌, append-nil}
use native.Mathlib.Nat.{le_of_suc-le-suc, not-suc-le-zero}
use native.Mathlib.Omega.{arith}
use lib.Dec.{lit<}
use lib.ListN.{length, get_or, take, drop, length-append}
use lib.Seq.{take_all, drop_at}
use borrow.Author.Tests.{le-ltb}
use Rattle.answers.specs.declared.Refusal.{Refusal}
use Rattle.buffer.specs.Counted.{counting}
use Rattle.record.specs.Ages.{is_age}
use Rattle.record.specs.Table.{Bytes, le}
use Rattle.record.proofs.Bytes.{each_byte}
use Rattle.reading.specs.Reading.{taken, if_age}
use Rattle.reading.proofs.Whole.{whole_took}
use Rattle.std.specs.Prelude.{Result, Ok, Err}
use Rattle.runs.specs.Runs.{record_front, step_of}
use Rattle.runs.proofs.Along.{Run, Steps, stands_at, unknown, finds_one}
use Rattle.runs.proofs.Records.{record_run, record_steps}
use Rattle.chunk.specs.Chunk.{type_of, header_size, chunk_size, record_part, wrong_sizes, if_head}
use Rattle.chunk.specs.Behind.{SameRecord}
use Rattle.chunk.proofs.Behind.{part_front, same_taken, both_whole, behind_record}
use Rattle.chunk.proofs.Exactly.{once}
use Rattle.chunk.proofs.Head.{head_stands}
use Rattle.chunk_runs.specs.Chunks.{chunk_front, chunk_step_of}
use Rattle.chunk_runs.specs.Chunked.{ChunkOf, Chunked, all_header, wrapped, CanBeChunked, joined, places_from, records, chunks, SameAt, ChunkedSame}
use Rattle.chunk_runs.proofs.Chunks.{chunk_run, chunk_steps}
use Rattle.chunk_runs.proofs.Pieces.{Laid, laid_all, laid_next, pieces}

-- a record and its chunk
module _ {r c : List ℕ} (of : ChunkOf r c) where
  -- the record is there, and the chunk has a head
  there : taken r ≤ length r
  there = omega (arith, of.whole)

  long : 20 ≤ length c
  long = omega (arith, of.least, of.header, of.size)

  -- whatever stands behind them
  module _ (w : List ℕ) where
    -- the record stands at the front of what begins with it
    record_stands : record_front (r ++ w) ≡ Ok (length r)
    record_stands = whole_took (r ++ w) _ _ (both_whole r w there) ∙ ap Ok (same_taken r w there ∙ of.whole)

    -- the sizes are the same
    same_header : header_size (c ++ w) ≡ header_size c
    same_header = ap le (part_front c w 2 4 (omega (arith, long)))

    same_size : chunk_size (c ++ w) ≡ length c
    same_size = ap le (part_front c w 4 8 (omega (arith, long))) ∙ of.size

    -- its record is r, with what else its header holds
    same_holds : record_part (c ++ w) ≡ r ++ of.more
    same_holds = rw same_header (part_front c w 20 (header_size c) (omega (arith, of.header, of.size)) ∙ of.holds)

    -- its sizes are right, and every call by its head gives
    sizes_right : wrong_sizes (c ++ w) ≡ false
    sizes_right =
        let n = length-append c w in
        rw (
          le-ltb (header_size (c ++ w)) 20 (omega (arith, same_header, of.least)),
          le-ltb (chunk_size (c ++ w)) (header_size (c ++ w)) (omega (arith, same_header, same_size, of.header, of.size)),
          le-ltb (length (c ++ w)) (chunk_size (c ++ w)) (omega (arith, same_size, n)),
        )

    headed : {A : Type 0} (refuse : Refusal → A) (give : A) → if_head (c ++ w) refuse give ≡ give
    headed refuse give =
        head_stands (c ++ w) refuse give (omega (arith, long, length-append c w)) (type_of (c ++ w)) refl
        (ap le (part_front c w 0 2 (omega (arith, long))) ∙ of.type) (sym sizes_right)

    -- the chunk stands at the front of what begins with it
    chunk_stands : chunk_front (c ++ w) ≡ Ok (length c)
    chunk_stands =
        headed _ _ ∙ whole_took (record_part (c ++ w)) _ _ (rw same_holds (both_whole r of.more there)) ∙ ap Ok same_size

    -- a call at an age that goes by its head is the call on its record
    by_record : {A : Type 0} (a : ℕ) (refuse : Refusal → A) (give : A) → if_age a refuse (if_head (c ++ w) refuse (if_age a refuse give)) ≡ if_age a refuse give
    by_record a refuse give = once a (c ++ w) refuse give ∙ ap (if_age a refuse) (headed refuse give)

-- two records that are both the same as a third
both_same : {x y z : List ℕ} → SameRecord x z → SameRecord y z → SameRecord x y
both_same l m =
    record {
      held = λ a. l.held a ∙ sym (m.held a);
      reads = λ a. l.reads a ∙ sym (m.reads a);
      text = λ a old. l.text a old ∙ sym (m.text a old);
      counted = λ a old. l.counted a old ∙ sym (m.counted a old);
      marks = λ a old. l.marks a old ∙ sym (m.marks a old);
    }

-- two readers of one age, each where something stands that they read alike
module _ {s t : List ℕ} {run : Run s} {other : Run t} {a : ℕ} (x : Steps run a) (y : Steps other a) (q p m n : ℕ) (here : run.front q ≡ Ok m)
    (there : other.front p ≡ Ok n) (alike : x.read q ≡ y.read p) where
  same_step : ((x.step q).tells ≡ (y.step p).tells) × ((x.step q).gives ≡ (y.step p).gives)
  same_step = by (is_age a) refl where
    by : (b : Bool) → b ≡ is_age a → ((x.step q).tells ≡ (y.step p).tells) × ((x.step q).gives ≡ (y.step p).gives)
    by true e = rw (finds_one x e q m here, finds_one y e p n there, alike) (refl, refl)
    by false e = rw (unknown x q e, unknown y p e) (refl, refl)

-- r stands at q of s, and c, its chunk, at p of t: what stands behind r matters neither there nor here
module _ {r c : List ℕ} (of : ChunkOf r c) (s : List ℕ) (q : ℕ) (v : List ℕ) (at-q : drop q s ≡ r ++ v) (t : List ℕ) (p : ℕ) (w : List ℕ) (at_p : drop p t ≡ c ++ w) where
  alike : SameRecord (r ++ v) (record_part (c ++ w))
  alike = rw (same_holds of w) (both_same (behind_record r v (there of)) (behind_record r of.more (there of)))

  steps : (a : ℕ) → ((step_of a s q).tells ≡ (chunk_step_of a t p).tells) × ((step_of a s q).gives ≡ (chunk_step_of a t p).gives)
  steps a =
      same_step (record_steps a s) (chunk_steps a t) q p (length r) (length c) (stands_at (record_run s) q _ (ap record_front at-q ∙ record_stands of v))
      (stands_at (chunk_run t) p _ (ap chunk_front at_p ∙ chunk_stands of w)) (rw (at-q, at_p) (alike.reads a))

  same_at : SameAt s q t p
  same_at =
      record {
        tells = λ a. (steps a).0;
        gives = λ a. (steps a).1;
        text = λ a old. rw (at-q, at_p) (alike.text a old ∙ sym (by_record of w a _ _));
        counted = λ a old. rw (at-q, at_p) (alike.counted a old ∙ ap (counting _) (sym (by_record of w a _ _)));
        marks = λ a old. rw (at-q, at_p) (alike.marks a old ∙ sym (by_record of w a _ _));
      }

-- so it is for each piece
each_same : (pairs : List Chunked) (s : List ℕ) (q : ℕ) (t : List ℕ) (p : ℕ) → Laid s q (records pairs) → Laid t p (chunks pairs) → (i : ℕ) → i < length pairs
    → SameAt s (get_or (places_from q (records pairs)) i 0) t (get_or (places_from p (chunks pairs)) i 0)
each_same [] s q t p l m i h = absurd (not-suc-le-zero h)
each_same (c ∷ pairs) s q t p l m zero h = same_at c.of s q (joined (records pairs)) l.there t p (joined (chunks pairs)) m.there
each_same (c ∷ pairs) s q t p l m (suc i) h =
    each_same pairs s (q + length c.alone) t (p + length c.chunk) (laid_next c.alone l) (laid_next c.chunk m) i (le_of_suc-le-suc h)

-- chunks change the offsets, and nothing else
pub chunked_same : ChunkedSame
chunked_same pairs =
    let s = joined (records pairs) in
    let t = joined (chunks pairs) in
    let l = laid_all (records pairs) in
    let m = laid_all (chunks pairs) in
    let alone = pieces (record_run s) (λ (c : Chunked). c.alone) (λ c. record_stands c.of) pairs l in
    let chunked = pieces (chunk_run t) (λ (c : Chunked). c.chunk) (λ c. chunk_stands c.of) pairs m in
    record {
      record_places = alone.0;
      chunk_places = chunked.0;
      record_end = alone.1;
      chunk_end = chunked.1;
      each = λ i h. rw (alone.0, chunked.0) (each_same pairs s 0 t 0 l m i h);
    }

-- bytes before bytes
bytes_both : (s t : List ℕ) → Bytes s → Bytes t → Bytes (s ++ t)
bytes_both [] t h g i = g i
bytes_both (b ∷ s) t h g zero = h 0
bytes_both (b ∷ s) t h g (suc i) = bytes_both s t (λ j. h (suc j)) g i

-- a header size of two bytes has room for a number below 65536
pub can_be_chunked : CanBeChunked
can_be_chunked x r twelve whole fits x-bytes r-bytes =
    let n = 20 + length r in
    let header = header_size (wrapped x r) in
    let is : header ≡ n = omega arith in
    let low : n % 256 < 256 = omega arith in
    let high : n / 256 < 256 = omega arith in (
      record {
        whole = whole;
        type = refl;
        least = omega (arith, is);
        header = omega arith;
        size = omega (arith, length-append x r);
        more = [];
        holds = ap (take (header - 20)) (drop_at x r 12 twelve) ∙ take_all (header - 20) r (omega (arith, is)) ∙ sym (append-nil r);
      },
      bytes_both (all_header n) (x ++ r) (each_byte (all_header n) (lit< tt, (lit< tt, (low, (high, (low, (high, (lit< tt, (lit< tt, tt)))))))))
          (bytes_both x r x-bytes r-bytes),
    )
