-- How long a subtag's text is at most. Assumes nothing.
use Prim.Native.Nat.{ℕ, ◌+◌, ◌*◌, ◌≤◌, ◌<◌}
use mathlib.Core.Path.{◌≡◌, refl, ap, ◌∙◌}
use mathlib.Core.List.{List, [], ◌∷◌}
use native.Mathlib.Omega.{arith}
use native.Mathlib.Decide.{ℕ_discrete}
use native.Mathlib.Nat.{min-le_left}
use lib.ListN.{length, length-append, length-drop, length-take}
use borrow.Author.Tests.{eq-eqb, ne_eqb}
use Rattle.laws.proofs.Lists.{Each}
use Rattle.subtag.specs.declared.utf8.Front.{Front}
use Rattle.subtag.specs.Utf8.{front_of}
use Rattle.subtag.specs.Subtag.{piece_of, front_size, replaced, keep, drop_nuls, subtag_of}
use Rattle.subtag.proofs.Laws.{size_one, size_in, by_fronts, replaced_more, replaced_none}
use Rattle.subtag.proofs.Low.{low_judged}
use Rattle.subtag.proofs.Strip.{subtag_is}

piece_long : (f : Front) (s : List ℕ) → 1 ≤ front_size f → length (piece_of f s) ≤ 3 * front_size f
piece_long (Front.WellFormed n) s h = omega (arith, length-take n s, min-le_left n (length s))
piece_long (Front.IllFormed n) s h = omega arith

replaced_long : (s : List ℕ) → length (replaced s) ≤ 3 * length s
replaced_long =
    by_fronts (λ s. length (replaced s) ≤ 3 * length s)
    (λ s h. omega (arith, ap length (replaced_none s h)))
    (λ s h behind.
    let n = front_size (front_of s) in
    let d = length-drop n s in
    let least = size_one s h in
    let most = size_in s h in
    let q = piece_long (front_of s) s least in
    rw (replaced_more s h) (simp length-append (omega arith)))

pub keep_long : (b : ℕ) (t : List ℕ) → length (keep b t) ≤ 1 + length t
unfolding keep
keep_long b [] =
    elim (ℕ_discrete b 0) [
      | yes e ↦ rw (eq-eqb b 0 e) (omega arith)
      | no e ↦ rw (ne_eqb b 0 e) (omega arith)
    ]
keep_long b (c ∷ t) = omega arith

-- a NUL at the end is not kept
pub nul_gone : length (keep 0 []) ≡ 0
unfolding keep
nul_gone = refl

drop_long : (s : List ℕ) → length (drop_nuls s) ≤ length s
unfolding drop_nuls
drop_long [] = omega arith
drop_long (b ∷ s) = omega (arith, keep_long b (drop_nuls s), drop_long s)

-- three bytes for each byte that is kept, and so for each byte
pub subtag_kept : (s : List ℕ) → length (subtag_of s) ≤ 3 * length (drop_nuls s)
subtag_kept s = rw (subtag_is s) (replaced_long (drop_nuls s))

pub subtag_long : (s : List ℕ) → length (subtag_of s) ≤ 3 * length s
subtag_long s = omega (arith, subtag_kept s, drop_long s)

-- a byte below 80 stands for itself
pub low_front : (b : ℕ) (s : List ℕ) → b < 128 → replaced (b ∷ s) ≡ b ∷ replaced s
low_front b s h =
    let w : front_of (b ∷ s) ≡ Front.WellFormed 1 = low_judged b s h in
    rw w at (replaced_more (b ∷ s) (omega arith))

-- all bytes below 80
abbrev pub Low : List ℕ → Type 0
Low s = Each (λ b. b < 128) s

low_same : (s : List ℕ) → Low s → replaced s ≡ s
low_same [] h = replaced_none [] refl
low_same (b ∷ s) h = low_front b s h.0 ∙ ap (λ (l : List ℕ). b ∷ l) (low_same s h.1)

low_keep : (b : ℕ) (t : List ℕ) → b < 128 → Low t → Low (keep b t)
unfolding keep
low_keep b [] h k =
    elim (ℕ_discrete b 0) [
      | yes e ↦ rw (eq-eqb b 0 e) tt
      | no e ↦ rw (ne_eqb b 0 e) (h, tt)
    ]
low_keep b (c ∷ t) h k = (h, k)

low_drop : (s : List ℕ) → Low s → Low (drop_nuls s)
unfolding drop_nuls
low_drop [] h = tt
low_drop (b ∷ s) h = low_keep b (drop_nuls s) h.0 (low_drop s h.1)

-- of bytes below 80, no more than are kept
pub low_long : (s : List ℕ) → Low s → length (subtag_of s) ≡ length (drop_nuls s)
low_long s h = rw (subtag_is s, low_same (drop_nuls s) (low_drop s h))

-- a byte below 80 first, and then one byte at the most
low_one : (a : ℕ) (t : List ℕ) → a < 128 → length t ≤ 1 → length (replaced (keep a t)) ≤ 4
unfolding keep
low_one a [] h k =
    elim (ℕ_discrete a 0) [
      | yes e ↦ rw (eq-eqb a 0 e) (omega (arith, ap length (replaced_none [] refl)))
      | no e ↦ rw (ne_eqb a 0 e) (omega (arith, ap length (low_front a [] h), ap length (replaced_none [] refl)))
    ]
low_one a (b ∷ t) h k = omega (arith, ap length (low_front a (b ∷ t) h), replaced_long (b ∷ t))

-- two bytes and two NULs, the first below 80
pub low_then : (a b : ℕ) → a < 128 → length (subtag_of (a ∷ b ∷ 0 ∷ 0 ∷ [])) ≤ 4
unfolding drop_nuls keep
low_then a b h = rw (subtag_is (a ∷ b ∷ 0 ∷ 0 ∷ [])) (low_one a (keep b []) h (keep_long b []))
