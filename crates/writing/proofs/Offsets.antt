-- The bytes of what is laid, offset by offset. Assumes nothing.
use mathlib.Core.Path.{◌≡◌, refl, sym, ap, ◌∙◌}
use mathlib.Core.Bool.{Bool, true, false, cond, ◌&&◌, true≢false}
use mathlib.Core.List.{List, ◌++◌}
use Prim.Native.Nat.{ℕ, zero, suc, ◌+◌, ◌-◌, ◌≤◌, ◌<◌}
use native.Mathlib.Omega.{arith}
use lib.Dec.{leb, ltb, lit≤}
use lib.ListN.{length, get_or, take, length-replicate, get_or-append}
use lib.Seq.{paste, length-paste, take-paste, drop-paste, length-take-le, get_or-take, get_or-drop, get_or-append-add}
use borrow.Author.Tests.{ltb-true, ltb-false, leb-false}
use Rattle.laws.proofs.Below.{none, ◌then◌, all_at, none_at}
use Rattle.record.specs.Table.{start_of, end_of, width_of}
use Rattle.reading.specs.Reading.{reads}
use Rattle.record.specs.declared.ResTableConfig.{ResTableConfig}
use Rattle.reading.proofs.Limits.{start_end, end_within}
use Rattle.record.specs.Shape.{Shaped}
use Rattle.writing.specs.Writing.{bytes_of, span, laid, bytes_written, in_field, decoded}
use Rattle.writing.proofs.Zeros.{zeros_at}
use Rattle.writing.proofs.Order.{ordered}

-- a byte of a list with x pasted over it
module _ (d x : List ℕ) (a n : ℕ) (hd : a + n ≤ length d) (hx : n ≤ length x) (k : ℕ) where
  front : k < a + n → get_or (paste d a x n) k 0 ≡ get_or (take a d ++ take n x) k 0
  front h = sym (get_or-take (a + n) (paste d a x n) k 0 h) ∙ ap (λ (l : List ℕ). get_or l k 0) (take-paste d a x n (omega arith) hx)

  pub paste_in : a ≤ k → k < a + n → get_or (paste d a x n) k 0 ≡ get_or x (k - a) 0
  paste_in g h =
      let e : k ≡ length (take a d) + (k - a) = omega (arith, length-take-le a d (omega arith)) in
      front h ∙ ap (λ (m : ℕ). get_or (take a d ++ take n x) m 0) e ∙ get_or-append-add (take a d) (take n x) (k - a) 0 ∙ get_or-take n x (k - a) 0 (omega arith)

  pub paste_before : k < a → get_or (paste d a x n) k 0 ≡ get_or d k 0
  paste_before h = front (omega arith) ∙ get_or-append (take a d) (take n x) 0 k (omega (arith, length-take-le a d (omega arith))) ∙ get_or-take a d k 0 h

  pub paste_behind : a + n ≤ k → get_or (paste d a x n) k 0 ≡ get_or d k 0
  paste_behind h =
      let e : a + n + (k - (a + n)) ≡ k = omega arith in
      ap (λ (m : ℕ). get_or (paste d a x n) m 0) (sym e)
      ∙ sym (get_or-drop (a + n) (paste d a x n) (k - (a + n)) 0)
      ∙ ap (λ (l : List ℕ). get_or l (k - (a + n)) 0) (drop-paste d a x n (omega arith) hx)
      ∙ get_or-drop (a + n) d (k - (a + n)) 0 ∙ ap (λ (m : ℕ). get_or d m 0) e

module _ (r : ResTableConfig) (w : Shaped r) where
  pub bytes_long : (f : ℕ) → f < 15 → length (bytes_of r f) ≡ width_of f
  unfolding bytes_of
  bytes_long =
      all_at (λ f. length (bytes_of r f) ≡ width_of f) 15
      (none then refl then refl then refl then refl then refl then refl then refl then refl then refl then w.script then w.variant then refl then refl then w.numbering then w.padding)

  long_by : (f : ℕ) → f < 15 → length (laid r f) ≡ span r → (b : Bool) → reads r.size f ≡ b → length (cond b (paste (laid r f) (start_of f) (bytes_of r f) (width_of f)) (laid r f)) ≡ span r
  long_by f h ih true e =
      length-paste (laid r f) (start_of f) (bytes_of r f) (width_of f) (omega (arith, end_within r.size f h e, start_end f h)) (omega (arith, bytes_long f h)) ∙ ih
  long_by f h ih false e = ih

  pub laid_long : (n : ℕ) → n ≤ 15 → length (laid r n) ≡ span r
  unfolding laid
  laid_long zero h = length-replicate {A = ℕ} (span r) 0
  laid_long (suc n) h = long_by n (omega arith) (laid_long n (omega arith)) (reads r.size n) refl

  module _ (m : ℕ) (l : m < 15) (e : reads r.size m ≡ true) where
    fits : start_of m + width_of m ≤ length (laid r m)
    fits = omega (arith, laid_long m (omega arith), end_within r.size m l e, start_end m l)

    own : width_of m ≤ length (bytes_of r m)
    own = omega (arith, bytes_long m l)

  module _ (k f : ℕ) (t : reads r.size f ≡ true) (ge : start_of f ≤ k) (lt : k < end_of f) where
    in_by : (m : ℕ) → m < 15 → f < suc m → (f < m → get_or (laid r m) k 0 ≡ get_or (bytes_of r f) (k - start_of f) 0) → (b c : Bool)
        → reads r.size m ≡ b → ltb f m ≡ c
        → get_or (cond b (paste (laid r m) (start_of m) (bytes_of r m) (width_of m)) (laid r m)) k 0 ≡ get_or (bytes_of r f) (k - start_of f) 0
    in_by m l h ih true true p q =
        let g = ltb-true f m q in
        paste_before (laid r m) (bytes_of r m) (start_of m) (width_of m) (fits m l p) (own m l p) k (omega (arith, ordered f m g l)) ∙ ih g
    in_by m l h ih true false p q =
        let g : m ≡ f = omega (arith, ltb-false f m q) in
        paste_in (laid r m) (bytes_of r m) (start_of m) (width_of m) (fits m l p) (own m l p) k (rw g ge) (omega (arith, start_end m l, ap end_of g))
        ∙ ap (λ (j : ℕ). get_or (bytes_of r j) (k - start_of j) 0) g
    in_by m l h ih false true p q = ih (ltb-true f m q)
    in_by m l h ih false false p q =
        let g : f ≡ m = omega (arith, ltb-false f m q) in
        absurd (true≢false (sym t ∙ ap (reads r.size) g ∙ p))

    -- a byte of a field that is read
    pub laid_in : (n : ℕ) → n ≤ 15 → f < n → get_or (laid r n) k 0 ≡ get_or (bytes_of r f) (k - start_of f) 0
    unfolding laid
    laid_in zero h g = absurd (omega arith)
    laid_in (suc m) h g = in_by m (omega arith) g (laid_in m (omega arith)) (reads r.size m) (ltb f m) refl refl

  module _ (k : ℕ) where
    beside : (m : ℕ) → m < 15 → (e : reads r.size m ≡ true) → in_field k m ≡ false → get_or (laid r m) k 0 ≡ 0
        → (b : Bool) → leb (start_of m) k ≡ b → get_or (paste (laid r m) (start_of m) (bytes_of r m) (width_of m)) k 0 ≡ 0
    beside m l e o ih true q =
        let g : end_of m ≤ k = ltb-false k (end_of m) (rw q at o) in
        paste_behind (laid r m) (bytes_of r m) (start_of m) (width_of m) (fits m l e) (own m l e) k (omega (arith, start_end m l)) ∙ ih
    beside m l e o ih false q =
        paste_before (laid r m) (bytes_of r m) (start_of m) (width_of m) (fits m l e) (own m l e) k (leb-false (start_of m) k q) ∙ ih

    out_by : (m : ℕ) → m < 15 → get_or (laid r m) k 0 ≡ 0 → (b : Bool) → reads r.size m ≡ b → b && in_field k m ≡ false
        → get_or (cond b (paste (laid r m) (start_of m) (bytes_of r m) (width_of m)) (laid r m)) k 0 ≡ 0
    out_by m l ih true e o = beside m l e o ih (leb (start_of m) k) refl
    out_by m l ih false e o = ih

    -- a byte in no field that is read
    laid_out : (n : ℕ) → n ≤ 15 → ((f : ℕ) → f < n → reads r.size f && in_field k f ≡ false) → get_or (laid r n) k 0 ≡ 0
    unfolding laid
    laid_out zero h o = zeros_at (span r) k
    laid_out (suc m) h o = out_by m (omega arith) (laid_out m (omega arith) (λ f g. o f (omega arith))) (reads r.size m) refl (o m (omega arith))

    pub written_out : decoded r.size k ≡ false → get_or (bytes_written r) k 0 ≡ 0
    unfolding decoded
    written_out e = laid_out 15 (lit≤ tt) (λ f h. none_at 15 (λ f. reads r.size f && in_field k f) e f h)

  pub written_in : (k f : ℕ) → f < 15 → reads r.size f ≡ true → start_of f ≤ k → k < end_of f → get_or (bytes_written r) k 0 ≡ get_or (bytes_of r f) (k - start_of f) 0
  written_in k f h t ge lt = laid_in k f t ge lt 15 (lit≤ tt) h

  pub written_long : length (bytes_written r) ≡ span r
  written_long = laid_long 15 (lit≤ tt)
