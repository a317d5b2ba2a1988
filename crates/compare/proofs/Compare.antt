-- Laws of bytes held against bytes. Assumes nothing.
use Prim.Native.Nat.{ℕ, suc, ◌+◌, ◌≤◌, ◌<◌}
use mathlib.Core.Path.{◌≡◌, refl, sym, ap, ◌∙◌}
use mathlib.Core.List.{List, [], ◌∷◌, ◌++◌}
use mathlib.Core.Bool.{Bool, true, false, cond, true≢false}
use native.Mathlib.Omega.{arith}
use native.Mathlib.Decide.{dec_lt}
use native.Mathlib.Numerals.{add-one}
use lib.Dec.{eqb, ltb}
use lib.ListN.{length, get_or, take, drop, drop_of_length-le, take-append-drop}
use lib.Seq.{drop-cons, take-append_seam, take_all}
use borrow.Author.Tests.{eq-eqb, ne_eqb, eqb-true, lt-ltb, le-ltb}
use Rattle.std.specs.Bool.{Decides}
use Rattle.std.specs.List.{position, position_or_len}
use Rattle.std.specs.Option.{unwrap_or}
use Rattle.std.specs.Str.{bytes_eq}
use Rattle.std.proofs.Common.{Option, Some, None}
use Rattle.std.proofs.lemmas.Bool.Decides.{same_from_decides}
use Rattle.std.proofs.lemmas.List.Recursion.{is_position_or_len}
use Rattle.std.proofs.lemmas.Slice.Eq.{bytes_eq-Decides}
use Rattle.laws.proofs.Choice.{chosen_by}
use Rattle.laws.proofs.Tests.{not_yes}
use Rattle.compare.specs.Compare.{same, begins_with, up_to}

-- what is the same is one list
pub same_true : (s t : List ℕ) → same s t ≡ true → s ≡ t
unfolding same
same_true [] [] e = refl
same_true [] (b ∷ t) e = absurd (true≢false (sym e))
same_true (a ∷ s) [] e = absurd (true≢false (sym e))
same_true (a ∷ s) (b ∷ t) e =
    chosen_by (λ (x : Bool). x ≡ true → a ∷ s ≡ b ∷ t) (eqb a b)
    (λ h g. let p = eqb-true a b h in let q = same_true s t g in cc) (λ h g. absurd (true≢false (sym g))) e

-- a list is the same as itself
pub same_refl : (s : List ℕ) → same s s ≡ true
unfolding same
same_refl [] = refl
same_refl (a ∷ s) = rw (eq-eqb a a refl) (same_refl s)

-- what isn't one list isn't the same
pub same_false : (s t : List ℕ) → (s ≡ t → ⊥) → same s t ≡ false
same_false s t h = not_yes (same s t) (λ e. h (same_true s t e))

-- the test tells whether they are one list
same_Decides : (s t : List ℕ) → Decides (same s t) (s ≡ t)
same_Decides s t = (same_true s t, λ e. rw e (same_refl t))

-- bytes that are equal place by place are the same
pub same_is : (s t : List ℕ) → bytes_eq s t ≡ same s t
same_is s t = same_from_decides (bytes_eq s t) (same s t) (bytes_eq-Decides s t) (same_Decides s t)

-- lists of two lengths aren't the same
pub same_length : (s t : List ℕ) → (length s ≡ length t → ⊥) → false ≡ same s t
same_length s t h = sym (same_false s t (λ e. h (ap length e)))

-- one byte of each, and the rest
pub same_at : (s t : List ℕ) (i : ℕ) → i < length s → i < length t
    → same (drop i s) (drop i t) ≡ cond (eqb (get_or s i 0) (get_or t i 0)) (same (drop (i + 1) s) (drop (i + 1) t)) false
unfolding same
same_at s t i h k = rw (drop-cons s i 0 h, drop-cons t i 0 k, add-one)

-- nothing is left of either
pub same_end : (s t : List ℕ) (i : ℕ) → length s ≤ i → length t ≤ i → same (drop i s) (drop i t) ≡ true
unfolding same
same_end s t i h k = rw (drop_of_length-le s h, drop_of_length-le t k)

-- what is shorter than w doesn't begin with w
pub begins_short : (w s : List ℕ) → length s < length w → false ≡ begins_with w s
unfolding begins_with
begins_short w s h = same_length (take (length w) s) w (λ e. omega (arith, rw (take_all (length w) s (omega arith)) at e))

-- the front of s as long as w decides
pub begins_is : (w s : List ℕ) → same (take (length w) s) w ≡ begins_with w s
unfolding begins_with
begins_is w s = refl

-- the same, with the bytes first
pub strips_is : (w s : List ℕ) → bytes_eq (take (length w) s) w ≡ begins_with w s
unfolding begins_with
strips_is w s = same_is (take (length w) s) w

-- what begins with w is w and the rest
pub begins_true : (w s : List ℕ) → begins_with w s ≡ true → s ≡ w ++ drop (length w) s
unfolding begins_with
begins_true w s e =
    let p = same_true (take (length w) s) w e in sym (take-append-drop (length w) s) ∙ ap (λ (l : List ℕ). l ++ drop (length w) s) p

-- w and more begins with w
pub begins_front : (w s : List ℕ) → begins_with w (w ++ s) ≡ true
unfolding begins_with
begins_front w s = rw (take-append_seam w s) (same_refl w)

-- what begins with another byte doesn't begin with w
pub begins_other : (x : ℕ) (w s : List ℕ) → (get_or s 0 0 ≡ x → ⊥) → begins_with (x ∷ w) s ≡ false
unfolding begins_with same
begins_other x w [] h = refl
begins_other x w (b ∷ s) h = rw (ne_eqb b x h)

-- nothing is left
pub up_end : (b : ℕ) (s : List ℕ) (i : ℕ) → length s ≤ i → up_to b (drop i s) ≡ 0
unfolding up_to
up_end b s i h = rw (drop_of_length-le s h)

-- no more bytes stand before b than there are
pub up_most : (b : ℕ) (s : List ℕ) → up_to b s ≤ length s
unfolding up_to
up_most b [] = omega arith
up_most b (a ∷ s) = chosen_by (λ n. n ≤ suc (length s)) (eqb a b) (λ e. omega arith) (λ e. omega (arith, up_most b s))

-- past what has no b
pub up_past : (b : ℕ) (u v : List ℕ) → up_to b u ≡ length u → up_to b (u ++ v) ≡ length u + up_to b v
unfolding up_to
up_past b [] v = λ e. omega arith
up_past b (a ∷ u) v =
    chosen_by (λ (x : ℕ). x ≡ suc (length u) → up_to b ((a ∷ u) ++ v) ≡ suc (length u) + up_to b v) (eqb a b)
    (λ t e. absurd (omega arith))
    (λ t e. rw t (omega (arith, up_past b u v (omega arith))))

-- a b behind what has none
pub up_here : (b : ℕ) (u v : List ℕ) → up_to b u ≡ length u → up_to b (u ++ b ∷ v) ≡ length u
unfolding up_to
up_here b u v e = up_past b u (b ∷ v) e ∙ rw (eq-eqb b b refl) (omega arith)

-- where it stops before the end, a b stands
pub up_found : (b : ℕ) (s : List ℕ) → up_to b s < length s → get_or s (up_to b s) 0 ≡ b
unfolding up_to
up_found b [] = λ h. absurd (omega arith)
up_found b (a ∷ s) =
    chosen_by (λ (x : ℕ). x < suc (length s) → get_or (a ∷ s) x 0 ≡ b) (eqb a b)
    (λ t h. eqb-true a b t)
    (λ t h. up_found b s (omega arith))

-- the first place of b, or the end
up_place : (b : ℕ) (s : List ℕ) → up_to b s ≡ position_or_len (λ x. eqb x b) s
unfolding up_to
up_place b s = is_position_or_len (up_to b) (λ x. eqb x b) refl (λ x xs. let e : 1 + up_to b xs ≡ suc (up_to b xs) = omega arith in rw e refl) s

-- the place of the first b where there is one, and the length else
pub up_first : (b : ℕ) (s : List ℕ) (r : Option ℕ) → r ≡ position (λ x. eqb x b) s → unwrap_or r (length s) ≡ up_to b s
up_first b s r e =
    let g : r ≡ cond (ltb (up_to b s) (length s)) (Some (up_to b s)) None = rw (up_place b s) e in
    elim (dec_lt (up_to b s) (length s)) [
      | yes h ↦ rw (g, lt-ltb (up_to b s) (length s) h)
      | no h ↦ rw (g, le-ltb (up_to b s) (length s) (omega arith)) (omega (arith, up_most b s))
    ]
