-- Fields laid over zeros, and over the front of a longer buffer. Assumes nothing.
use mathlib.Core.Path.{◌≡◌, sym, ap, ◌∙◌}
use mathlib.Core.Bool.{true, false}
use mathlib.Core.List.{List, [], ◌∷◌, ◌++◌, append_assoc}
use Prim.Native.Nat.{ℕ, suc, ◌+◌, ◌≤◌, ◌<◌}
use native.Mathlib.Numerals.{add-one}
use native.Mathlib.Omega.{arith}
use lib.ListN.{length, get_or, take, drop, set, replicate, length-append, length-drop, length-replicate, replicate-append-replicate, take-append-drop}
use lib.Seq.{paste, drop-cons, set_at, append_snoc, take-append-le, drop-append-le, take-take}
use Rattle.record.specs.Table.{start_of, width_of}
use Rattle.reading.specs.Reading.{reads}
use Rattle.record.specs.declared.ResTableConfig.{ResTableConfig}
use Rattle.writing.specs.Writing.{bytes_of, span, laid}

pub cleared_length : (o : List ℕ) (i : ℕ) → i ≤ length o → length (replicate i 0 ++ drop i o) ≡ length o
cleared_length o i h = omega (arith, length-append (replicate i 0) (drop i o), length-replicate {A = ℕ} i 0, length-drop i o)

pub cleared_more : (o : List ℕ) (i : ℕ) → i < length o → set (replicate i 0 ++ drop i o) i 0 ≡ replicate (i + 1) 0 ++ drop (i + 1) o
cleared_more o i h =
    rw (drop-cons o i 0, ← replicate-append-replicate {A = ℕ} i 1 0)
    (set_at (replicate i 0) (get_or o i 0) (drop (suc i) o) 0 i (length-replicate {A = ℕ} i 0)
    ∙ sym (append_snoc (replicate i 0) 0 (drop (suc i) o)) ∙ ap (λ (n : ℕ). replicate i 0 ++ (0 ∷ []) ++ drop n o) (sym (add-one i)))

-- over the front of a longer list
pub paste_front : (d e : List ℕ) (a n : ℕ) (x : List ℕ) → a + n ≤ length d → paste (d ++ e) a x n ≡ paste d a x n ++ e
paste_front d e a n x h =
    ap (λ (l : List ℕ). l ++ take n x ++ drop (a + n) (d ++ e)) (take-append-le a d e (omega arith))
    ∙ ap (λ (l : List ℕ). take a d ++ take n x ++ l) (drop-append-le (a + n) d e h) ∙ sym (append_assoc (take a d ++ take n x) (drop (a + n) d) e)

-- only the first n are looked at
pub paste_own : (d : List ℕ) (a n : ℕ) (x y : List ℕ) → take n x ≡ y → paste d a x n ≡ paste d a y n
paste_own d a n x y e = ap (λ (l : List ℕ). take a d ++ l ++ drop (a + n) d) (sym (take-take n n x (omega arith)) ∙ ap (take n) e)

module _ (r : ResTableConfig) (o : List ℕ) (t : ℕ) where
  pub laid_none : t ≡ span r → take t o ≡ replicate t 0 → o ≡ laid r 0 ++ drop t o
  unfolding laid
  laid_none e z = sym (take-append-drop t o) ∙ ap (λ (l : List ℕ). l ++ drop t o) (z ∙ ap (λ (n : ℕ). replicate n 0) e)

  pub laid_past : (f : ℕ) → reads r.size f ≡ false → laid r f ++ drop t o ≡ laid r (f + 1) ++ drop t o
  unfolding laid
  laid_past f e = rw (add-one f, e)

  pub laid_more : (f : ℕ) (x d : List ℕ) → reads r.size f ≡ true → take (width_of f) x ≡ bytes_of r f → d ≡ laid r f ++ drop t o
      → start_of f + width_of f ≤ length (laid r f) → paste d (start_of f) x (width_of f) ≡ laid r (f + 1) ++ drop t o
  unfolding laid
  laid_more f x d e own g h =
      ap (λ (l : List ℕ). paste l (start_of f) x (width_of f)) g
      ∙ paste_front (laid r f) (drop t o) (start_of f) (width_of f) x h
      ∙ ap (λ (l : List ℕ). l ++ drop t o) (paste_own (laid r f) (start_of f) (width_of f) x (bytes_of r f) own) ∙ rw (add-one f, e)

  -- how long it is, by the buffer
  pub laid_length : (f : ℕ) (d : List ℕ) → d ≡ laid r f ++ drop t o → length d ≡ length o → t ≤ length o → length (laid r f) ≡ t
  laid_length f d e g h = omega (arith, ap length e, length-append (laid r f) (drop t o), length-drop t o)
