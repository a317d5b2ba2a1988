-- The rule of reading as one limit: a field is read exactly when it ends within T, and at an age within the lesser of both.
-- Assumes nothing.
use Prim.Native.Nat.{ℕ, ◌≤◌, ◌<◌, max, min}
use mathlib.Core.Path.{◌≡◌, sym, ap, ◌∙◌}
use mathlib.Core.Bool.{Bool, true, false, cond, ◌&&◌, ◌||◌}
use mathlib.Core.List.{List}
use native.Mathlib.Omega.{arith}
use native.Mathlib.Decide.{dec_le}
use lib.Dec.{leb, ltb}
use lib.ListN.{length}
use borrow.Author.Tests.{le-leb, lt-leb, leb-true, ltb-true}
use Rattle.laws.proofs.Below.{in_row}
use Rattle.record.specs.Table.{start_of, end_of, bytes_taken}
use Rattle.reading.specs.Reading.{reads, record_by, plain, aged, size_of, taken}
use Rattle.reading.specs.ReadTo.{read_to}
use Rattle.reading.proofs.FieldBytes.{record_by_lem}

-- the first four fields end within 16, and the others past it
first_four : (f : ℕ) → f < 15 → cond (ltb f 4) (leb (end_of f) 16) (ltb 16 (end_of f)) ≡ true
first_four = in_row 15 (λ f. cond (ltb f 4) (leb (end_of f) 16) (ltb 16 (end_of f))) tt

-- every field has a byte
pub start_end : (f : ℕ) → f < 15 → start_of f < end_of f
start_end f h = ltb-true (start_of f) (end_of f) (in_row 15 (λ g. ltb (start_of g) (end_of g)) tt f h)

-- no field ends past 64
pub end_most : (f : ℕ) → f < 15 → end_of f ≤ 64
end_most f h = leb-true (end_of f) 64 (in_row 15 (λ g. leb (end_of g) 64) tt f h)

rule : (e size : ℕ) (always : Bool) → cond always (leb e 16) (ltb 16 e) ≡ true → always || leb e size ≡ leb e (max size 16)
rule e size true t = let h = leb-true e 16 t in sym (le-leb e (max size 16) (omega arith))
rule e size false t =
    let l = ltb-true 16 e t in
    elim (dec_le e size) [
      | yes h ↦ le-leb e size h ∙ sym (le-leb e (max size 16) (omega arith))
      | no h ↦ lt-leb e size (omega arith) ∙ sym (lt-leb e (max size 16) (omega arith))
    ]

-- a field is read exactly when it ends within T
pub reads_is : (f size : ℕ) → f < 15 → reads size f ≡ leb (end_of f) (bytes_taken size)
unfolding reads
reads_is f size h = rule (end_of f) size (ltb f 4) (first_four f h)

-- a field that is read ends within T
pub end_within : (size f : ℕ) → f < 15 → reads size f ≡ true → end_of f ≤ bytes_taken size
end_within size f h e = leb-true (end_of f) (bytes_taken size) (sym (reads_is f size h) ∙ e)

both : (e t a : ℕ) → leb e a && leb e t ≡ leb e (min t a)
both e t a =
    elim (dec_le e a) [
      | yes h ↦ rw (le-leb e a h) (elim (dec_le e t) [
        | yes g ↦ le-leb e t g ∙ sym (le-leb e (min t a) (omega arith))
        | no g ↦ lt-leb e t (omega arith) ∙ sym (lt-leb e (min t a) (omega arith))
      ])
      | no h ↦ let g : a < e = omega arith in rw (lt-leb e a g) (sym (lt-leb e (min t a) (omega arith)))
    ]

pub plain_is : (s : List ℕ) → plain s ≡ record_by (λ f. leb (end_of f) (taken s)) s
unfolding plain
plain_is s = record_by_lem _ _ s (λ f h. reads_is f (size_of s) h)

pub aged_is : (a : ℕ) (s : List ℕ) → aged a s ≡ record_by (λ f. leb (end_of f) (min (taken s) a)) s
unfolding aged
aged_is a s = record_by_lem _ _ s (λ f h. rw (reads_is f (size_of s) h) (both (end_of f) (taken s) a))

-- within T and a, where T bytes are there
pub read_aged : (a n : ℕ) (s : List ℕ) → n ≡ taken s → taken s ≤ length s → read_to (min n a) s ≡ aged a s
read_aged a n s e h =
    let g : min (min n a) (length s) ≡ min (taken s) a = omega arith in
    ap (λ (limit : ℕ). record_by (λ f. leb (end_of f) limit) s) g ∙ sym (aged_is a s)

-- at age 64 aged reading is plain reading
pub aged_plain : (s : List ℕ) → aged 64 s ≡ plain s
unfolding aged plain
aged_plain s = record_by_lem _ _ s (λ f h. rw (le-leb (end_of f) 64 (end_most f h)))
