-- Laws of the count of replacements. Assumes nothing.
use Prim.Native.Nat.{ℕ, ◌≤◌, ◌<◌}
use mathlib.Core.Path.{◌≡◌, refl, sym, ◌∙◌}
use mathlib.Core.List.{List, [], ◌∷◌, ◌++◌}
use mathlib.Core.Logic.{◌↔◌}
use native.Mathlib.Omega.{arith}
use lib.ListN.{length, drop, length-append, length-drop, take-append-drop}
use Rattle.subtag.specs.declared.utf8.Front.{Front}
use Rattle.subtag.specs.Utf8.{ok_at, front_of}
use Rattle.subtag.specs.Subtag.{front_size, replaced, keep, drop_nuls, subtag_of}
use Rattle.subtag.specs.Replacements.{ill_formed, ill_formed_by, replacements, WellFormedUtf8, none, more}
use Rattle.subtag.proofs.Laws.{size_one, size_in, by_fronts, replaced_more, replaced_none, replacements_more, replacements_none, one_most}
use Rattle.subtag.proofs.Strip.{strip, subtag_is}
use Rattle.subtag.proofs.Tail.{rest_nul}
use Rattle.subtag.proofs.Long.{Low, keep_long}
use Rattle.subtag.proofs.Low.{low_judged}

-- no more replacements than bytes
pub count_long : (s : List ℕ) → replacements s ≤ length s
count_long =
    by_fronts (λ s. replacements s ≤ length s)
    (λ s h. omega (arith, replacements_none s h))
    (λ s h behind.
    omega (arith, replacements_more s h, one_most (front_of s), size_one s h, size_in s h, length-drop (front_size (front_of s)) s))

-- a NUL at the end is well-formed, and so are all of them
nul_alone : (s : List ℕ) → length s ≡ 0 → replacements (s ++ 0 ∷ []) ≡ replacements s
unfolding replacements ill_formed_by front_of ok_at
nul_alone [] h = refl
nul_alone (b ∷ s) h = absurd (omega arith)

pub count_nul : (s : List ℕ) → replacements (s ++ 0 ∷ []) ≡ replacements s
count_nul =
    by_fronts (λ s. replacements (s ++ 0 ∷ []) ≡ replacements s) nul_alone
    (λ s h behind.
    let e = rest_nul s h in
    replacements_more (s ++ 0 ∷ []) (omega (arith, length-append s (0 ∷ []))) ∙ rw (e.1, e.0, behind) (sym (replacements_more s h)))

pub count_trimmed : (s : List ℕ) → replacements s ≡ replacements (drop_nuls s)
count_trimmed = strip replacements count_nul

-- no more than bytes that are kept
pub count_kept : (s : List ℕ) → replacements s ≤ length (drop_nuls s)
count_kept s = omega (arith, count_trimmed s, count_long (drop_nuls s))

-- a byte below 80 is none
pub low_counted : (b : ℕ) (s : List ℕ) → b < 128 → replacements (b ∷ s) ≡ replacements s
low_counted b s h =
    let w : front_of (b ∷ s) ≡ Front.WellFormed 1 = low_judged b s h in
    omega (arith, rw w at (replacements_more (b ∷ s) (omega arith)))

pub low_none : (s : List ℕ) → Low s → replacements s ≡ 0
low_none [] h = replacements_none [] refl
low_none (b ∷ s) h = low_counted b s h.0 ∙ low_none s h.1

-- two bytes and two NULs, the first below 80
pub low_then_one : (a b : ℕ) → a < 128 → replacements (a ∷ b ∷ 0 ∷ 0 ∷ []) ≤ 1
unfolding drop_nuls keep
low_then_one a b h = omega (arith, low_counted a (b ∷ 0 ∷ 0 ∷ []) h, count_kept (b ∷ 0 ∷ 0 ∷ []), keep_long b [])

-- well-formed bytes have no replacement
formed_none : {s : List ℕ} → WellFormedUtf8 s → replacements s ≡ 0
formed_none none = replacements_none [] refl
formed_none (more {b} {s} e w) = omega (arith, rw e at (replacements_more (b ∷ s) (omega arith)), formed_none w)

-- a front that counts as none is well-formed
front_formed : (b : ℕ) (s : List ℕ) (f : Front) → front_of (b ∷ s) ≡ f → ill_formed f ≡ 0 → WellFormedUtf8 (drop (front_size f) (b ∷ s))
    → WellFormedUtf8 (b ∷ s)
front_formed b s (Front.WellFormed n) e z w = more e w
front_formed b s (Front.IllFormed n) e z w = absurd (omega arith)

none_formed : (s : List ℕ) → replacements s ≡ 0 → WellFormedUtf8 s
none_formed =
    by_fronts (λ s. replacements s ≡ 0 → WellFormedUtf8 s) empty behind where
      empty : (s : List ℕ) → length s ≡ 0 → replacements s ≡ 0 → WellFormedUtf8 s
      empty [] h z = none
      empty (b ∷ s) h z = absurd (omega arith)

      behind : (s : List ℕ) → 0 < length s → (replacements (drop (front_size (front_of s)) s) ≡ 0 → WellFormedUtf8 (drop (front_size (front_of s)) s))
          → replacements s ≡ 0 → WellFormedUtf8 s
      behind [] h w z = absurd (omega arith)
      behind (b ∷ s) h w z =
          let m = replacements_more (b ∷ s) h in front_formed b s (front_of (b ∷ s)) refl (omega arith) (w (omega arith))

-- no replacement exactly when the bytes are well-formed
pub none_exactly : (s : List ℕ) → (replacements s ≡ 0) ↔ WellFormedUtf8 s
none_exactly s = (none_formed s, formed_none)

-- well-formed bytes stay as they are
formed_stays : {s : List ℕ} → WellFormedUtf8 s → replaced s ≡ s
formed_stays none = replaced_none [] refl
formed_stays (more {b} {s} {n} e w) =
    rw e at (replaced_more (b ∷ s) (omega arith)) ∙ rw (formed_stays w) (take-append-drop n (b ∷ s))

-- a subtag without a replacement is its own bytes, without the NULs at the end
pub own_bytes : (s : List ℕ) → replacements s ≡ 0 → subtag_of s ≡ drop_nuls s
own_bytes s z = subtag_is s ∙ formed_stays (none_formed (drop_nuls s) (sym (count_trimmed s) ∙ z))
