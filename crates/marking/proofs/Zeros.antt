-- Bytes that are all zero, one by one and by their offsets. Assumes nothing.
use Prim.Native.Nat.{ℕ, zero, suc, ◌+◌, ◌-◌, ◌<◌, min}
use mathlib.Core.Path.{◌≡◌, refl, sym, ap, ◌∙◌}
use mathlib.Core.Bool.{Bool, true, false, not, ◌&&◌, ◌||◌, true≢false}
use mathlib.Core.List.{List, [], ◌∷◌}
use native.Mathlib.Nat.{sub-zero, zero-sub, suc-sub-suc}
use native.Mathlib.Numerals.{add-one}
use native.Mathlib.Omega.{arith}
use lib.Dec.{eqb}
use lib.ListN.{length, get_or, take, drop}
use lib.Seq.{take-nil}
use borrow.Author.Tests.{eqb-true, eqb-false}
use Rattle.std.specs.List.{between, list_any}
use Rattle.std.proofs.lemmas.List.{take_min}
use Rattle.std.proofs.lemmas.Slice.{between_is}
use Rattle.laws.proofs.Tests.{and_both}
use Rattle.record.specs.Table.{part, all_zero}

-- the part from a on of the first t bytes
pub drop_take : (a t : ℕ) (s : List ℕ) → drop a (take t s) ≡ part s a (t - a)
drop_take zero t s = ap (λ (n : ℕ). take n s) (sym (sub-zero t))
drop_take (suc a) zero s = sym (ap (part s (suc a)) (zero-sub (suc a)))
drop_take (suc a) (suc t) [] = sym (take-nil (suc t - suc a))
drop_take (suc a) (suc t) (x ∷ s) = drop_take a t s ∙ ap (part s a) (sym (suc-sub-suc t a))

-- neither of two is both
or_of_not : (a b : Bool) → (not a || not b) ≡ not (a && b)
or_of_not true b = refl
or_of_not false b = refl

-- a byte that isn't zero, sought in the part from a on of the first n bytes
some_late : (l : List ℕ) → list_any (λ b. not (eqb b 0)) l ≡ not (all_zero l)
some_late [] = refl
some_late (b ∷ l) = rw (some_late l) (or_of_not (eqb b 0) (all_zero l))

pub late_between : (s : List ℕ) (n a e : ℕ) → e ≡ min n (length s) → list_any (λ b. not (eqb b 0)) (between a e s) ≡ not (all_zero (drop a (take n s)))
late_between s n a e h = some_late (between a e s) ∙ ap (λ (l : List ℕ). not (all_zero l)) (between_is s a e ∙ ap (drop a) (rw h (take_min n s)))

-- a byte that isn't zero
pub record Found (l : List ℕ) : Type 0 where
  pub offset : ℕ
  pub inside : offset < length l
  pub found : get_or l offset 0 ≡ 0 → ⊥

found_by : (x : ℕ) (l : List ℕ) (b : Bool) → eqb x 0 ≡ b → (all_zero l ≡ false → Found l) → b && all_zero l ≡ false → Found (x ∷ l)
found_by x l true p more e =
    let m = more e in record { offset = m.offset + 1; inside = omega (arith, m.inside); found = rw (add-one m.offset) m.found }
found_by x l false p more e = record { offset = 0; inside = omega arith; found = eqb-false x 0 p }

-- bytes that aren't all zero have one that isn't
pub some_found : (l : List ℕ) → all_zero l ≡ false → Found l
some_found [] e = absurd (true≢false e)
some_found (x ∷ l) e = found_by x l (eqb x 0) refl (some_found l) e

-- and bytes that are all zero have none
pub each_zero : (l : List ℕ) → all_zero l ≡ true → (i : ℕ) → get_or l i 0 ≡ 0
each_zero [] e i = refl
each_zero (x ∷ l) e zero = eqb-true x 0 (and_both {a = eqb x 0} e).0
each_zero (x ∷ l) e (suc i) = each_zero l (and_both {a = eqb x 0} e).1 i
