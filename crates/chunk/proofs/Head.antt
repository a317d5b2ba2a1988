-- The head of a chunk, and the chunk with its record: what an answer says of every call that goes by them. Assumes nothing.
use Prim.Native.Nat.{ℕ, ◌-◌, ◌≤◌, ◌<◌}
use mathlib.Core.Path.{◌≡◌, sym, ap, ◌∙◌}
use mathlib.Core.Bool.{Bool, true, false, cond, ◌||◌}
use mathlib.Core.List.{List, [], ◌∷◌}
use native.Mathlib.Omega.{arith}
use lib.Dec.{ltb}
use lib.ListN.{length, length-append}
use borrow.Author.Tests.{ltb-false, lt-ltb, le-ltb, eq-eqb, ne_eqb}
use Rattle.answers.specs.declared.Refusal.{Refusal}
use Rattle.std.specs.Prelude.{Result, Ok, Err}
use Rattle.answers.specs.Demand1.{Condition}
use Rattle.answers.specs.Tells.{success, refusal, told_of}
use Rattle.answers.proofs.Exactly.{Goes, none_left, one_more, row_none, by_answer, answered, took_none, Answering, answering, row_map}
use Rattle.laws.proofs.Lists.{part_long}
use Rattle.laws.proofs.Tests.{or_neither}
use Rattle.record.specs.Table.{part}
use Rattle.reading.specs.Reading.{size_of, taken}
use Rattle.reading.proofs.Exactly.{whole_row}
use Rattle.chunk.specs.Chunk.{type_of, header_size, chunk_size, head_shown, record_part, wrong_sizes, if_head, if_chunk, chunk_take}
use Rattle.chunk.specs.Demand1.{fewer_than20, other_type, sizes_wrong, chunk_first}

-- the conditions of a head before a row
pub head_row : {A : Type 0} {row : List Condition} {refuse : Refusal → A} {give o : A} (s : List ℕ) → Goes row refuse give o
    → Goes (fewer_than20 s ∷ other_type s ∷ sizes_wrong s ∷ row) refuse give (if_head s refuse o)
unfolding if_head
head_row s g = one_more (fewer_than20 s) (one_more (other_type s) (one_more (sizes_wrong s) g))

-- those of a chunk
pub chunk_row : {A : Type 0} {row : List Condition} {refuse : Refusal → A} {give o : A} (s : List ℕ) → Goes row refuse give o
    → Goes (chunk_first s row) refuse give (if_chunk s refuse o)
chunk_row s g = head_row s (whole_row (record_part s) g)

-- what the sizes say that aren't wrong
pub record Sized (s : List ℕ) : Type 0 where
  pub least : 20 ≤ header_size s
  pub header : header_size s ≤ chunk_size s
  pub chunk : chunk_size s ≤ length s

pub sized : (s : List ℕ) → wrong_sizes s ≡ false → Sized s
sized s e =
    let header = or_neither {b = ltb (length s) (chunk_size s)} e in
    let low = or_neither {b = ltb (chunk_size s) (header_size s)} header.0 in
    record {
      least = ltb-false (header_size s) 20 low.0;
      header = ltb-false (chunk_size s) (header_size s) low.1;
      chunk = ltb-false (length s) (chunk_size s) header.1;
    }

-- the test of the sizes, of those that were read
pub sizes_read : (s : List ℕ) (header size : ℕ) (b : Bool) → header ≡ header_size s → size ≡ chunk_size s
    → b ≡ (ltb header 20 || ltb size header || ltb (length s) size) → b ≡ wrong_sizes s
sizes_read s header size b p q e = rw (← p, ← q) e

-- ten bytes are shown
pub shown_long : (s : List ℕ) → 20 ≤ length s → length (head_shown s) ≡ 10
shown_long s h =
    length-append (part s 8 2) (part s 12 8) ∙ omega (arith, part_long s 8 2 (omega arith), part_long s 12 8 (omega arith))

-- how a call goes by a head, as each of its conditions holds
module _ {A : Type 0} (s : List ℕ) (refuse : Refusal → A) (give : A) where
  pub head_few : length s < 20 → if_head s refuse give ≡ refuse Refusal.TooFewBytes
  unfolding if_head
  head_few h = rw (lt-ltb (length s) 20 h)

  module _ (long : 20 ≤ length s) (kind : ℕ) (is-kind : kind ≡ type_of s) where
    pub head_type : (kind ≡ 0x0201 → ⊥) → if_head s refuse give ≡ refuse Refusal.WrongType
    unfolding if_head
    head_type h = rw (le-ltb (length s) 20 long, ne_eqb (type_of s) 0x0201 (λ e. h (is-kind ∙ e)))

    module _ (right : kind ≡ 0x0201) where
      past : if_head s refuse give ≡ cond (wrong_sizes s) (refuse Refusal.WrongSizes) give
      unfolding if_head
      past = rw (le-ltb (length s) 20 long, eq-eqb (type_of s) 0x0201 (sym is-kind ∙ right))

      pub head_sizes : true ≡ wrong_sizes s → if_head s refuse give ≡ refuse Refusal.WrongSizes
      head_sizes h = past ∙ rw (← h)

      pub head_stands : false ≡ wrong_sizes s → if_head s refuse give ≡ give
      head_stands h = past ∙ rw (← h)

-- an answer of a call that goes by a head alone, and gives n where it stands
module _ (s : List ℕ) (n : ℕ) (answer : Result ℕ Refusal) (told : told_of answer ≡ if_head s refusal (success n)) where
  abbrev Row : List Condition
  Row = fewer_than20 s ∷ other_type s ∷ sizes_wrong s ∷ []

  -- so goes every other call by that head
  pub head_way : {A : Type 0} (refuse : Refusal → A) (give : A) → if_head s refuse give ≡ by_answer refuse (λ m. give) answer
  head_way refuse give = (head_row s none_left).by ∙ answered Row n refuse (λ m. give) answer (told ∙ (head_row s none_left).by)

  pub head_says : (m : ℕ) → answer ≡ Ok m → (m ≡ n) × Sized s
  head_says m e =
      let t = took_none Row n m (ap told_of (sym e) ∙ told ∙ (head_row s none_left).by) in
      (t.0, sized s t.1.1.1.0)

-- the answer of `header_end`: where the header ends, which is inside the bytes, and the record's part of it
pub record InHeader (s : List ℕ) (m : ℕ) : Type 0 where
  pub from : 20 ≤ m
  pub to : m ≤ length s
  pub long : 20 ≤ length s
  pub holds : part s 20 (m - 20) ≡ record_part s

pub in_header : (s : List ℕ) (answer : Result ℕ Refusal) → told_of answer ≡ if_head s refusal (success (header_size s)) → (m : ℕ) → answer ≡ Ok m → InHeader s m
in_header s answer told m e =
    let h = head_says s (header_size s) answer told m e in
    let is = h.0 in
    let z = h.1 in
    record {
      from = omega (arith, z.least);
      to = omega (arith, z.header, z.chunk);
      long = omega (arith, z.least, z.header, z.chunk);
      holds = ap (λ (n : ℕ). part s 20 (n - 20)) is;
    }

-- an answer of `take_chunk`
module _ (s : List ℕ) (answer : Result ℕ Refusal) (told : told_of answer ≡ chunk_take s) where
  -- so goes every other call on that chunk
  pub chunk_way : {A : Type 0} (refuse : Refusal → A) (give : ℕ → A) → if_chunk s refuse (give (chunk_size s)) ≡ by_answer refuse give answer
  chunk_way refuse give =
      (chunk_row s none_left).by ∙ answered (chunk_first s []) (chunk_size s) refuse give answer (told ∙ (chunk_row s none_left).by)

  pub chunk_says : (m : ℕ) → answer ≡ Ok m → (m ≡ chunk_size s) × Sized s × (taken (record_part s) ≤ length (record_part s))
  chunk_says m e =
      let t = took_none (chunk_first s []) (chunk_size s) m (ap told_of (sym e) ∙ told ∙ (chunk_row s none_left).by) in
      let row = t.1 in
      let last = row.1.1.1 in (
        t.0,
        sized s row.1.1.0,
        omega (arith, ltb-false (length (record_part s)) 16 last.0, ltb-false (length (record_part s)) (size_of (record_part s)) last.1.0),
      )

  -- and every call by its head alone gives
  pub chunk_headed : (m : ℕ) → answer ≡ Ok m → {A : Type 0} (refuse : Refusal → A) (give : A) → if_head s refuse give ≡ give
  chunk_headed m e refuse give =
      let row = (took_none (chunk_first s []) (chunk_size s) m (ap told_of (sym e) ∙ told ∙ (chunk_row s none_left).by)).1 in
      (head_row s none_left).by ∙ row_none refuse give (fewer_than20 s ∷ other_type s ∷ sizes_wrong s ∷ []) (row.0, (row.1.0, (row.1.1.0, tt)))

  -- it has its twenty bytes
  pub chunk_long : (m : ℕ) → answer ≡ Ok m → 20 ≤ length s
  chunk_long m e = let z = (chunk_says m e).1 in omega (arith, z.least, z.header, z.chunk)

-- there is one for every chunk
pub chunk_answer : (s : List ℕ) → Answering (chunk_first s []) (chunk_size s)
chunk_answer s = answering (chunk_first s []) (chunk_size s)

pub chunk_told : (s : List ℕ) → told_of (chunk_answer s).answer ≡ chunk_take s
chunk_told s = (chunk_answer s).told ∙ sym (chunk_row s none_left).by

-- what is said of a call on a chunk is said of each way that it goes
pub chunk_map : {A B : Type 0} (f : A → B) (s : List ℕ) (refuse : Refusal → A) (give : A)
    → f (if_chunk s refuse give) ≡ if_chunk s (λ why. f (refuse why)) (f give)
chunk_map f s refuse give = ap f (chunk_row s none_left).by ∙ row_map f (chunk_first s []) refuse give ∙ sym (chunk_row s none_left).by
