-- When the writer writes and when it refuses, and with which number. Assumes nothing.
use Prim.Native.Nat.{ℕ, ◌≤◌, ◌<◌}
use mathlib.Core.Path.{◌≡◌, refl, sym, ap, ◌∙◌, subst}
use mathlib.Core.Bool.{Bool, true, false, ◌||◌}
use mathlib.Core.List.{List, [], ◌∷◌, ◌++◌}
use native.Mathlib.Omega.{arith}
use lib.ListN.{length, drop, replicate, length-replicate}
use lib.Seq.{drop_at}
use lib.Dec.{leb, ltb}
use borrow.Author.Tests.{not-false, ltb-false, leb-true, le-leb}
use Rattle.laws.proofs.Tests.{or_neither, or_right}
use Rattle.laws.proofs.Below.{each_spot, each_stop, each_at, each_here, in_row}
use Rattle.answers.specs.declared.Refusal.{Refusal}
use Rattle.std.specs.Prelude.{Result, Ok, Err}
use Rattle.answers.proofs.Exactly.{Goes, one_unless}
use Rattle.buffer.specs.Written.{outcome, written, wrote, refused}
use Rattle.buffer.specs.Demand1.{shorter_than}
use Rattle.buffer.proofs.Writing.{written_fits, written_short}
use Rattle.buffer.proofs.Exactly.{written_row, refuses_by}
use Rattle.record.specs.Table.{all_zero, end_of}
use Rattle.record.specs.declared.ResTableConfig.{ResTableConfig}
use Rattle.reading.specs.Reading.{reads}
use Rattle.record.specs.Shape.{Shaped}
use Rattle.writing.specs.Writing.{bytes_of, span, bytes_written, keeps, tidy, write_of}
use Rattle.writing.specs.Demand1.{unread_field, Stray, UntidyWhenStray, WriterRefuses}
use Rattle.writing.proofs.Offsets.{written_long}

-- a field that isn't read, and isn't zero
pub unread_is : (r : ResTableConfig) (old : List ℕ) → tidy r ≡ false → write_of r old ≡ refused Refusal.UnreadField old
unfolding write_of
unread_is r old e = rw e

module _ (r : ResTableConfig) (w : Shaped r) (old : List ℕ) (fine : tidy r ≡ true) where
  written_is : write_of r old ≡ written (bytes_written r) old
  unfolding write_of
  written_is = rw fine

  -- fewer than T bytes
  pub short-is : length old < span r → write_of r old ≡ refused Refusal.ShortBuffer old
  short-is h = written_is ∙ written_short (bytes_written r) old (omega (arith, written_long r w))

  -- T bytes
  pub wrote-is : span r ≤ length old → write_of r old ≡ wrote (bytes_written r) old
  wrote-is h = written_is ∙ written_fits (bytes_written r) old (omega (arith, written_long r w))

  -- what is left where T bytes were cleared and the fields laid over them
  pub laid-is : (t : ℕ) (cleared new : List ℕ) → t ≡ span r → t ≤ length old → cleared ≡ replicate t 0 ++ drop t old → new ≡ bytes_written r ++ drop t cleared
      → outcome (Ok t) new ≡ write_of r old
  laid-is t cleared new e h c n =
      let l : t ≡ length (bytes_written r) = e ∙ sym (written_long r w) in
      let d : drop t cleared ≡ drop t old = ap (drop t) c ∙ drop_at (replicate t 0) (drop t old) t (length-replicate {A = ℕ} t 0) in
      ap (outcome (Ok t)) (n ∙ ap (λ (o : List ℕ). bytes_written r ++ o) d)
      ∙ ap (λ (k : ℕ). outcome (Ok k) (bytes_written r ++ drop k old)) l
      ∙ sym (wrote-is (omega arith))

stray : (r : ResTableConfig) → tidy r ≡ false → Stray r
unfolding tidy
stray r e =
    let w = each_spot 15 (keeps r) e in
    let p = or_neither w.gives in
    record { field = w.spot; within = w.within; skipped = p.0; filled = p.1 }

untidy : (r : ResTableConfig) → Stray r → tidy r ≡ false
unfolding tidy
untidy r w = each_stop 15 (keeps r) w.field w.within (rw w.skipped w.filled)

-- a record isn't tidy exactly when a field that isn't read isn't zero
pub stray-exactly : (r : ResTableConfig) → UntidyWhenStray r
stray-exactly r = (stray r, untidy r)

-- where the first of two tests holds, one does
or_left : (a b : Bool) → a ≡ true → a || b ≡ true
or_left a b e = rw e

-- a record of 64 bytes or more has every field read
pub whole-tidy : (r : ResTableConfig) → 64 ≤ span r → true ≡ tidy r
unfolding tidy reads
whole-tidy r h =
    sym (each_here 15 (keeps r) (λ f l.
    let e = leb-true (end_of f) 64 (in_row 15 (λ f. leb (end_of f) 64) tt f l) in
    or_left (ltb f 4 || leb (end_of f) r.size) _ (or_right (ltb f 4) (le-leb (end_of f) r.size (omega arith)))))

-- in a tidy record a field that isn't read is zero
pub unread-zero : (r : ResTableConfig) → tidy r ≡ true → (f : ℕ) → f < 15 → reads r.size f ≡ false → all_zero (bytes_of r f) ≡ true
unfolding tidy
unread-zero r fine f h e = rw e at (each_at 15 (keeps r) fine f h)

-- the writer goes by 6 and 5
writer-row : (r : ResTableConfig) → Shaped r → (old : List ℕ) → Goes (unread_field r ∷ shorter_than (span r) old ∷ []) (λ why. refused why old) (wrote (bytes_written r) old) (write_of r old)
unfolding write_of
writer-row r w old =
    one_unless (tidy r) Refusal.UnreadField
    (subst (λ (n : ℕ). Goes (shorter_than n old ∷ []) (λ why. refused why old) (wrote (bytes_written r) old) (written (bytes_written r) old)) (written_long r w) (written_row (bytes_written r) old))

-- `write`: 6, 5
pub writer-exactly : (r : ResTableConfig) (old : List ℕ) → WriterRefuses r old
writer-exactly r old w = refuses_by refl (writer-row r w old)

-- what the writer takes is tidy, and the lent buffer has T bytes
pub took-tidy : (r : ResTableConfig) → Shaped r → (old : List ℕ) → (write_of r old).tells.number ≡ 0 → (tidy r ≡ true) × (span r ≤ length old)
took-tidy r w old e =
    let n = (writer-exactly r old w).exactly.succeeds.0 e in (not-false (tidy r) n.0, ltb-false (length old) (span r) n.1.0)
