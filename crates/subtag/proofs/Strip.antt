-- The NULs at the end of a subtag may be dropped before the rest is replaced, and then none is at the end. Assumes nothing.
use Prim.Native.Nat.{ℕ, zero, suc, ◌≤◌, ◌<◌}
use mathlib.Core.Path.{◌≡◌, refl, sym, ap, ◌∙◌}
use mathlib.Core.Logic.{◌⊎◌, inl, inr}
use mathlib.Core.List.{List, [], ◌∷◌, ◌++◌, append-nil}
use native.Mathlib.Omega.{arith}
use native.Mathlib.Decide.{dec_lt, ℕ_discrete}
use lib.ListN.{length, drop, length-drop}
use lib.Seq.{take_all}
use borrow.Author.Tests.{eq-eqb, ne_eqb}
use Rattle.subtag.specs.declared.utf8.Front.{Front}
use Rattle.subtag.specs.Utf8.{front_of}
use Rattle.subtag.specs.Subtag.{piece_of, front_size, replaced, keep, drop_nuls, subtag_of}
use Rattle.subtag.proofs.Laws.{by_fronts, replaced_more, replaced_none}
use Rattle.subtag.proofs.Nuls.{none_left}
use Rattle.subtag.proofs.Tail.{subtag_nul}

-- what a NUL at the end does not change, all NULs at the end do not
keep_same : {A : Type 0} (f : List ℕ → A) → ((l : List ℕ) → f (l ++ 0 ∷ []) ≡ f l) → (b : ℕ) (t : List ℕ) → f (b ∷ t) ≡ f (keep b t)
unfolding keep
keep_same f h b [] =
    elim (ℕ_discrete b 0) [
      | yes e ↦ rw (eq-eqb b 0 e) (ap (λ (x : ℕ). f (x ∷ [])) e ∙ h [])
      | no e ↦ rw (ne_eqb b 0 e)
    ]
keep_same f h b (c ∷ t) = refl

pub strip : {A : Type 0} (f : List ℕ → A) → ((l : List ℕ) → f (l ++ 0 ∷ []) ≡ f l) → (s : List ℕ) → f s ≡ f (drop_nuls s)
unfolding drop_nuls
strip f h [] = refl
strip f h (b ∷ s) = strip (λ l. f (b ∷ l)) (λ l. h (b ∷ l)) s ∙ keep_same f h b (drop_nuls s)

-- the last byte, and d where there is none
last_or : ℕ → List ℕ → ℕ
last_or d [] = d
last_or d (b ∷ l) = last_or b l

-- there is one, and it is no NUL
Ends : List ℕ → Type 0
Ends l = last_or 0 l ≡ 0 → ⊥

last_append : (d : ℕ) (u v : List ℕ) → last_or d (u ++ v) ≡ last_or (last_or d u) v
unfolding last_or
last_append d [] v = refl
last_append d (b ∷ u) v = last_append b u v

last_any : (d : ℕ) (v : List ℕ) → Ends v → last_or d v ≡ last_or 0 v
unfolding last_or Ends
last_any d [] h = absurd (h refl)
last_any d (b ∷ v) h = refl

ends_append : (u v : List ℕ) → Ends v → Ends (u ++ v)
unfolding Ends
ends_append u v h e = h (sym (last_any (last_or 0 u) v h) ∙ sym (last_append 0 u v) ∙ e)

last_drop : (d e n : ℕ) (s : List ℕ) → n < length s → last_or d (drop n s) ≡ last_or e s
unfolding last_or
last_drop d e n [] h = absurd (omega arith)
last_drop d e zero (b ∷ s) h = refl
last_drop d e (suc n) (b ∷ s) h = last_drop d b n s (omega arith)

ends_piece : (f : Front) (s : List ℕ) → length s ≤ front_size f → Ends s → Ends (piece_of f s)
unfolding Ends last_or
ends_piece (Front.WellFormed n) s h e = rw (take_all n s h) e
ends_piece (Front.IllFormed n) s h e = λ z. omega arith

ends_stay : (s : List ℕ) → Ends s → Ends (replaced s)
unfolding Ends last_or
ends_stay =
    by_fronts (λ s. Ends s → Ends (replaced s)) empty
    (λ s p behind e.
    let n = front_size (front_of s) in
    rw (replaced_more s p)
    (elim (dec_lt n (length s)) [
      | yes m ↦ ends_append (piece_of (front_of s) s) (replaced (drop n s)) (behind (rw (last_drop 0 0 n s m) e))
      | no m ↦ rw (replaced_none (drop n s) (omega (arith, length-drop n s)), append-nil) (ends_piece (front_of s) s (omega arith) e)
    ])) where
      empty : (s : List ℕ) → length s ≡ 0 → Ends s → Ends (replaced s)
      empty [] h e = absurd (e refl)
      empty (b ∷ s) h e = absurd (omega arith)

ends_same : (l : List ℕ) → Ends l → drop_nuls l ≡ l
unfolding Ends last_or drop_nuls keep
ends_same [] h = refl
ends_same (b ∷ []) h = rw (ne_eqb b 0 h)
ends_same (b ∷ c ∷ l) h = ap (keep b) (ends_same (c ∷ l) h)

keep_ends : (b : ℕ) (t : List ℕ) → (t ≡ []) ⊎ Ends t → (keep b t ≡ []) ⊎ Ends (keep b t)
unfolding Ends last_or keep
keep_ends b [] h =
    elim (ℕ_discrete b 0) [
      | yes e ↦ rw (eq-eqb b 0 e) (inl refl)
      | no e ↦ rw (ne_eqb b 0 e) (inr e)
    ]
keep_ends b (c ∷ t) (inl e) = absurd (let z : ◌≡◌ {A = ℕ} 0 1 = cc in omega arith)
keep_ends b (c ∷ t) (inr h) = inr h

drop_ends : (s : List ℕ) → (drop_nuls s ≡ []) ⊎ Ends (drop_nuls s)
unfolding drop_nuls
drop_ends [] = inl refl
drop_ends (b ∷ s) = keep_ends b (drop_nuls s) (drop_ends s)

clean : (l : List ℕ) → (l ≡ []) ⊎ Ends l → subtag_of l ≡ replaced l
unfolding subtag_of
clean l (inl e) = rw (e, replaced_none [] refl) none_left
clean l (inr h) = ends_same (replaced l) (ends_stay l h)

pub subtag_is : (s : List ℕ) → subtag_of s ≡ replaced (drop_nuls s)
subtag_is s = strip subtag_of subtag_nul s ∙ clean (drop_nuls s) (drop_ends s)
