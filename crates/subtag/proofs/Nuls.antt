-- Laws of `drop_nuls`. Assumes nothing.
use Prim.Native.Nat.{ℕ, suc, ◌+◌, ◌<◌}
use mathlib.Core.Path.{◌≡◌, refl, ap, ◌∙◌}
use mathlib.Core.List.{List, [], ◌∷◌, ◌++◌}
use native.Mathlib.Numerals.{add-one}
use lib.ListN.{length, get_or, take}
use lib.Seq.{take-suc}
use borrow.Author.Tests.{ne_eqb}
use Rattle.subtag.specs.Subtag.{keep, drop_nuls}

pub nul_last : (l : List ℕ) → drop_nuls (l ++ 0 ∷ []) ≡ drop_nuls l
unfolding drop_nuls keep
nul_last [] = refl
nul_last (b ∷ l) = ap (keep b) (nul_last l)

kept : (b x : ℕ) (l : List ℕ) → keep b (l ++ x ∷ []) ≡ b ∷ (l ++ x ∷ [])
unfolding keep
kept b x [] = refl
kept b x (c ∷ l) = refl

other_last : (l : List ℕ) (x : ℕ) → (x ≡ 0 → ⊥) → drop_nuls (l ++ x ∷ []) ≡ l ++ x ∷ []
unfolding drop_nuls keep
other_last [] x h = rw (ne_eqb x 0 h)
other_last (b ∷ l) x h = ap (keep b) (other_last l x h) ∙ kept b x l

-- a NUL before the offset n: it goes
pub one_less : (s : List ℕ) (n m : ℕ) → n ≡ suc m → m < length s → get_or s m 0 ≡ 0 → drop_nuls (take n s) ≡ drop_nuls (take m s)
one_less s n m e h z = rw (e, take-suc s m 0, z, nul_last)

-- another byte there: all up to n stays
pub stays : (s : List ℕ) (n m : ℕ) → n ≡ suc m → m < length s → (get_or s m 0 ≡ 0 → ⊥) → drop_nuls (take n s) ≡ take (m + 1) s
stays s n m e h z = rw (e, add-one, take-suc s m 0) (other_last (take m s) (get_or s m 0) z)

-- no byte is left
pub none_left : drop_nuls [] ≡ []
unfolding drop_nuls
none_left = refl

pub ended : (s : List ℕ) (n : ℕ) → n ≡ 0 → drop_nuls (take n s) ≡ []
ended s n e = rw e none_left
