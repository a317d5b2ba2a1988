-- The bytes of a record, read and written back, are the same exactly when they say no more than the record. Assumes nothing.
use Prim.Native.Nat.{ℕ, ◌≤◌, ◌<◌, ◌-◌}
use mathlib.Core.Path.{◌≡◌, refl, sym, ap, ◌∙◌}
use mathlib.Core.Bool.{Bool, true, false, ◌||◌, ◌&&◌, true≢false}
use mathlib.Core.List.{List}
use mathlib.Core.Logic.{◌↔◌}
use native.Mathlib.Omega.{arith}
use lib.Dec.{lit<}
use lib.ListN.{length, get_or, take, drop, replicate}
use lib.Seq.{ext_get_or, get_or-take, length-take-le, take_at}
use Rattle.laws.proofs.Tests.{and_both}
use Rattle.laws.proofs.Below.{none, ◌then◌, all_at, Spot, some_spot, each_here}
use Rattle.laws.proofs.Lists.{part_at}
use Rattle.buffer.specs.Written.{Outcome}
use Rattle.record.specs.Table.{Bytes, part, le, all_zero, start_of, end_of, width_of, bit, bytes_taken}
use Rattle.reading.specs.Reading.{reads, field_by, record_by, plain, size_of, taken}
use Rattle.reading.proofs.Limits.{end_within}
use Rattle.reading.proofs.Shapes.{field_long, within_whole, shaped_plain}
use Rattle.writing.specs.Writing.{bytes4, bytes_of, span, in_field, decoded, keeps, tidy, bytes_written, Kept}
use Rattle.writing.specs.Demand2.{SameBytes, WritesBack}
use Rattle.writing.proofs.Zeros.{all_zeros}
use Rattle.writing.proofs.Bytes.{part_bytes, zeros_bytes, word_back, yes_back, bit_most}
use Rattle.writing.proofs.Order.{in_says}
use Rattle.writing.proofs.Offsets.{written_in, written_out, written_long}
use Rattle.writing.proofs.Answers.{wrote-is}

-- s: bytes, with a whole record at their front
module _ (s : List ℕ) (small : Bytes s) (whole : taken s ≤ length s) where
  -- the fields that are read
  abbrev held : ℕ → Bool
  held = reads (size_of s)

  -- what is read of field f
  abbrev own : ℕ → List ℕ
  own = field_by held s

  same_size : (plain s).size ≡ size_of s
  unfolding plain record_by field_by reads
  same_size = refl

  read_is : (f : ℕ) → held f ≡ true → own f ≡ part s (start_of f) (width_of f)
  unfolding field_by
  read_is f e = rw e

  unread_is : (f : ℕ) → held f ≡ false → own f ≡ replicate (width_of f) 0
  unfolding field_by
  unread_is f e = rw e

  own_long : (f : ℕ) → f < 15 → length (own f) ≡ width_of f
  own_long = field_long held s (within_whole s whole)

  bytes_by : (f : ℕ) (b : Bool) → held f ≡ b → Bytes (own f)
  bytes_by f true e = rw (read_is f e) (part_bytes s (start_of f) (width_of f) small)
  bytes_by f false e = rw (unread_is f e) (zeros_bytes (width_of f))

  -- the computed byte, where it is read, is 0 or 1
  abbrev Low : Type 0
  Low = held 12 ≡ true → get_or s 52 0 ≤ 1

  low_by : Low → (b : Bool) → held 12 ≡ b → get_or (own 12) 0 0 ≤ 1
  low_by c true e = rw (read_is 12 e, part_at s 52 1 52 (omega arith) (omega arith)) (c e)
  low_by c false e = rw (unread_is 12 e) (omega arith)

  word_same : (f : ℕ) → f < 15 → width_of f ≡ 4 → bytes4 (le (own f)) ≡ own f
  word_same f h e = word_back (own f) (own_long f h ∙ e) (bytes_by f (held f) refl)

  -- each field of the record that was read has the bytes that were read
  same_bytes : (f : ℕ) → f < 15 → (f ≡ 12 → Low) → bytes_of (plain s) f ≡ own f
  unfolding plain record_by bytes_of
  same_bytes =
      all_at (λ f. (f ≡ 12 → Low) → bytes_of (plain s) f ≡ own f) 15
      (none
      then (λ c. word_same 0 (lit< tt) refl)
      then (λ c. word_same 1 (lit< tt) refl)
      then (λ c. word_same 2 (lit< tt) refl)
      then (λ c. word_same 3 (lit< tt) refl)
      then (λ c. word_same 4 (lit< tt) refl)
      then (λ c. word_same 5 (lit< tt) refl)
      then (λ c. word_same 6 (lit< tt) refl)
      then (λ c. word_same 7 (lit< tt) refl)
      then (λ c. word_same 8 (lit< tt) refl)
      then (λ c. refl)
      then (λ c. refl)
      then (λ c. word_same 11 (lit< tt) refl)
      then (λ c. yes_back (own 12) (own_long 12 (lit< tt)) (low_by (c refl) (held 12) refl))
      then (λ c. refl)
      then (λ c. refl))

  tidy_by : (f : ℕ) → f < 15 → (b : Bool) → held f ≡ b → b || all_zero (bytes_of (plain s) f) ≡ true
  tidy_by f h true e = refl
  tidy_by f h false e = rw (same_bytes f h (λ q t. absurd (true≢false (sym t ∙ ap held (sym q) ∙ e))), unread_is f e) (all_zeros (width_of f))

  -- the writer doesn't refuse what was read with 6
  pub tidy_read : tidy (plain s) ≡ true
  unfolding tidy
  tidy_read = each_here 15 (keeps (plain s)) (λ f h. ap (λ (m : ℕ). reads m f || all_zero (bytes_of (plain s) f)) same_size ∙ tidy_by f h (held f) refl)

  span_is : span (plain s) ≡ taken s
  span_is = ap bytes_taken same_size

  out_long : length (bytes_written (plain s)) ≡ taken s
  out_long = written_long (plain s) (shaped_plain s whole) ∙ span_is

  -- a byte of what is written, in a field that is read
  out_in : (k f : ℕ) → f < 15 → held f ≡ true → start_of f ≤ k → k < end_of f → get_or (bytes_written (plain s)) k 0 ≡ get_or (bytes_of (plain s) f) (k - start_of f) 0
  out_in k f h e = written_in (plain s) (shaped_plain s whole) k f h (ap (λ (m : ℕ). reads m f) same_size ∙ e)

  -- and in none
  out_none : (k : ℕ) → decoded (size_of s) k ≡ false → get_or (bytes_written (plain s)) k 0 ≡ 0
  out_none k e = written_out (plain s) (shaped_plain s whole) k (ap (λ (m : ℕ). decoded m k) same_size ∙ e)

  in_field_lem : (k : ℕ) → Low → Spot 15 (λ f. held f && in_field k f) true → get_or (bytes_written (plain s)) k 0 ≡ get_or s k 0
  in_field_lem k c w =
      let f = w.spot in
      let p = and_both w.gives in
      let i = in_says k f p.1 in
      out_in k f w.within p.0 i.0 i.1
      ∙ ap (λ (l : List ℕ). get_or l (k - start_of f) 0) (same_bytes f w.within (λ q. c) ∙ read_is f p.0)
      ∙ part_at s (start_of f) (width_of f) k i.0 (omega (arith, i.0, i.1))

  kept_by : Kept s → (k : ℕ) → k < taken s → (b : Bool) → decoded (size_of s) k ≡ b → get_or (bytes_written (plain s)) k 0 ≡ get_or s k 0
  unfolding decoded
  kept_by w k h true e = in_field_lem k w.computed (some_spot 15 (λ f. held f && in_field k f) e)
  kept_by w k h false e = out_none k e ∙ sym (w.skipped k h e)

  kept_then : Kept s → bytes_written (plain s) ≡ take (taken s) s
  kept_then w =
      ext_get_or 0 (bytes_written (plain s)) (take (taken s) s) (out_long ∙ sym (length-take-le (taken s) s whole))
      (λ k l. let h : k < taken s = omega (arith, out_long) in
      kept_by w k h (decoded (size_of s) k) refl ∙ sym (get_or-take (taken s) s k 0 h))

  module _ (e : bytes_written (plain s) ≡ take (taken s) s) where
    at_offset : (k : ℕ) → k < taken s → get_or s k 0 ≡ get_or (bytes_written (plain s)) k 0
    at_offset k h = sym (get_or-take (taken s) s k 0 h) ∙ ap (λ (l : List ℕ). get_or l k 0) (sym e)

    low : Low
    unfolding bytes_of
    low t =
        let b = (plain s).locale_script_was_computed in
        let g : get_or s 52 0 ≡ bit b = at_offset 52 (omega (arith, end_within (size_of s) 12 (lit< tt) t)) ∙ out_in 52 12 (lit< tt) t (omega arith) (omega arith) in
        rw g (bit_most b)

    then_kept : Kept s
    then_kept = record { skipped = λ k h d. at_offset k h ∙ out_none k d; computed = low }

  -- the T bytes that the record read from s is written as are those of s exactly when s says no more than the record
  pub exactly : (bytes_written (plain s) ≡ take (taken s) s) ↔ Kept s
  exactly = (then_kept, kept_then)

  -- the same of the writer, with a lent buffer that holds them: it writes T bytes, and they are those of s exactly then
  written_same : (old : List ℕ) → taken s ≤ length old → SameBytes s old
  written_same old h =
      let o = wrote-is (plain s) (shaped_plain s whole) old tidy_read (omega (arith, span_is)) in
      let f = ap (λ (z : Outcome). take (taken s) z.leaves) o ∙ take_at (bytes_written (plain s)) (drop (length (bytes_written (plain s))) old) (taken s) out_long in
      record { takes = o; same = ((λ e. then_kept (sym f ∙ e)), (λ w. f ∙ kept_then w)) }

-- a record's bytes, read and written back
pub same_back : WritesBack
same_back s old small whole h = written_same s small whole old h
