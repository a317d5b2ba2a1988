-- A record is held back exactly when one of its T bytes at offset A or later isn't zero: the offset of that byte. Bytes in no
-- field and the tail past 64 count like any others. Assumes nothing.
use Prim.Native.Nat.{ℕ, ◌+◌, ◌-◌, ◌≤◌, ◌<◌}
use mathlib.Core.Path.{◌≡◌, refl, sym, ap, ◌∙◌}
use mathlib.Core.Bool.{Bool, true, false}
use mathlib.Core.List.{List, [], ◌∷◌, ◌++◌}
use native.Mathlib.Omega.{arith}
use lib.ListN.{length, get_or, take, drop, replicate, length-take, length-drop}
use lib.Seq.{get_or-take, get_or-drop}
use borrow.Author.Tests.{not-true, not-false}
use Rattle.record.specs.Table.{all_zero}
use Rattle.reading.specs.Reading.{taken}
use Rattle.marking.specs.Marks.{held_back}
use Rattle.marking.specs.Demand1.{Late, HeldWhenLate}
use Rattle.marking.proofs.Zeros.{some_found, each_zero}

-- the byte at offset k of the record, where the age is at most k
byte_at : (a : ℕ) (s : List ℕ) (k : ℕ) → a ≤ k → k < taken s → get_or (drop a (take (taken s) s)) (k - a) 0 ≡ get_or s k 0
byte_at a s k h g =
    let e : a + (k - a) ≡ k = omega arith in
    get_or-drop a (take (taken s) s) (k - a) 0 ∙ ap (λ (i : ℕ). get_or (take (taken s) s) i 0) e ∙ get_or-take (taken s) s k 0 g

held_late : (a : ℕ) (s : List ℕ) → held_back a s ≡ true → Late a s
unfolding held_back
held_late a s e =
    let l = drop a (take (taken s) s) in
    let f = some_found l (not-true (all_zero l) e) in
    let n : length l ≡ length (take (taken s) s) - a = length-drop a (take (taken s) s) in
    let k : a + f.offset < taken s = omega (arith, f.inside, length-take (taken s) s) in
    let p : a + f.offset - a ≡ f.offset = omega arith in
    record {
      offset = a + f.offset;
      late = omega arith;
      within = k;
      found = λ z. f.found (ap (λ (i : ℕ). get_or l i 0) (sym p) ∙ byte_at a s (a + f.offset) (omega arith) k ∙ z);
    }

-- a record that isn't held back is zero from offset a on
pub unheld_zero : (a : ℕ) (s : List ℕ) → held_back a s ≡ false → (k : ℕ) → a ≤ k → k < taken s → get_or s k 0 ≡ 0
unfolding held_back
unheld_zero a s e k h g =
    let l = drop a (take (taken s) s) in sym (byte_at a s k h g) ∙ each_zero l (not-false (all_zero l) e) (k - a)

late_held : (a : ℕ) (s : List ℕ) → Late a s → (b : Bool) → held_back a s ≡ b → b ≡ true
late_held a s w true e = refl
late_held a s w false e = absurd (w.found (unheld_zero a s e w.offset w.late w.within))

-- held back exactly when there is an offset k, with a ≤ k < T, whose byte isn't zero
pub held_exactly : (a : ℕ) (s : List ℕ) → HeldWhenLate a s
held_exactly a s = (held_late a s, (λ w. late_held a s w (held_back a s) refl))

-- a byte in no field counts: at size 44 byte 40 is in no field that is read, and a reader of age 40 holds back for it
pub skipped_counts : held_back 40 (44 ∷ replicate 39 0 ++ (1 ∷ 0 ∷ 0 ∷ 0 ∷ [])) ≡ true
unfolding held_back
skipped_counts = refl

-- the tail counts: at size 65 byte 64 is past every field, and a reader of age 64 holds back for it
pub tail_counts : held_back 64 (65 ∷ replicate 63 0 ++ (1 ∷ [])) ≡ true
unfolding held_back
tail_counts = refl
