-- Letters: a byte that is a subtag by itself, and bytes that each are one, in a row. Assumes nothing.
use Prim.Native.Nat.{ℕ, ◌+◌, ◌-◌, ◌≤◌, ◌<◌}
use mathlib.Core.Path.{◌≡◌, refl, sym, ap, ◌∙◌}
use mathlib.Core.Bool.{Bool, true, false, false≢true}
use mathlib.Core.List.{List, [], ◌∷◌, ◌++◌, append_assoc}
use mathlib.Core.Option.{none}
use native.Mathlib.Omega.{arith}
use native.Mathlib.Decide.{dec_lt}
use lib.Dec.{eqb}
use borrow.Author.Tests.{eqb-true, ne_eqb}
use Rattle.laws.proofs.Below.{in_row}
use Rattle.subtag.specs.declared.Copied.{Copied}
use Rattle.subtag.specs.declared.utf8.Front.{Front}
use Rattle.subtag.specs.Copies.{Copies}
use Rattle.subtag.specs.Replacements.{replacements}
use Rattle.subtag.specs.Subtag.{replacement, replaced, keep, drop_nuls, subtag_of}
use Rattle.subtag.specs.Utf8.{front_of, ok_at}
use Rattle.subtag.proofs.Counts.{count_long, count_nul, low_counted}
use Rattle.subtag.proofs.Laws.{replaced_more, replacements_more, replaced_none, replacements_none}
use Rattle.subtag.proofs.Long.{low_front}
use Rattle.subtag.proofs.Rows.{row_at}
use Rattle.subtag.proofs.Tail.{subtag_nul}

-- no NUL before a text is dropped
keep_other : (b : ℕ) (t : List ℕ) → (b ≡ 0 → ⊥) → keep b t ≡ b ∷ t
unfolding keep
keep_other b [] h = rw (ne_eqb b 0 h)
keep_other b (c ∷ t) h = refl

-- a byte below 80 that is no NUL, before anything
pub low_subtag : (b : ℕ) (s : List ℕ) → 0 < b → b < 128 → subtag_of (b ∷ s) ≡ b ∷ subtag_of s
unfolding subtag_of drop_nuls
low_subtag b s h k = ap drop_nuls (low_front b s k) ∙ keep_other b (drop_nuls (replaced s)) (λ e. omega arith)

-- a byte that begins no sequence, before anything
high_judged : (b : ℕ) (s : List ℕ) → 128 ≤ b → b < 194 → front_of (b ∷ s) ≡ Front.IllFormed 1
unfolding front_of
high_judged b s h k = rw (row_at 128 66 none tt b h (omega arith))

-- what is made of a front of one ill-formed byte, and of what stands behind it
ill_subtag : (b : ℕ) (s : List ℕ) → front_of (b ∷ s) ≡ Front.IllFormed 1 → subtag_of (b ∷ s) ≡ replacement ++ subtag_of s
unfolding subtag_of drop_nuls
ill_subtag b s e =
    let t = drop_nuls (replaced s) in
    ap drop_nuls (rw e at (replaced_more (b ∷ s) (omega arith)))
    ∙ rw (keep_other 0xBD t (λ z. omega arith), keep_other 0xBF (0xBD ∷ t) (λ z. omega arith), keep_other 0xEF (0xBF ∷ 0xBD ∷ t) (λ z. omega arith))

ill_counted : (b : ℕ) (s : List ℕ) → front_of (b ∷ s) ≡ Front.IllFormed 1 → replacements (b ∷ s) ≡ 1 + replacements s
ill_counted b s e = rw e at (replacements_more (b ∷ s) (omega arith))

-- nothing makes nothing
none_subtag : subtag_of [] ≡ []
unfolding subtag_of drop_nuls
none_subtag = ap drop_nuls (replaced_none [] refl)

-- bytes that are, as a subtag, the text w with n replacements
abbrev pub Is : List ℕ → List ℕ → ℕ → Type 0
Is s w n = (subtag_of s ≡ w) × (replacements s ≡ n)

-- a copier of that text copies the subtag
pub copy_is : (s : List ℕ) {w : List ℕ} {n : ℕ} {old : List ℕ} {at : ℕ} {new : List ℕ} {r : Copied}
    → Is s w n → Copies old at w n new r → Copies old at (subtag_of s) (replacements s) new r
copy_is s e p = rw (e.0, e.1) p

-- a byte has one replacement at the most
pub one_few : {old : List ℕ} {at : ℕ} {w : List ℕ} (b : ℕ) {new : List ℕ} {r : Copied} → Copies old at w (replacements (b ∷ [])) new r → r.replacements ≤ 1
one_few b p = omega (arith, p.counts, count_long (b ∷ []))

-- a NUL by itself
pub nul_alone : (b : ℕ) → b ≡ 0 → Is (b ∷ []) [] 0
nul_alone b e = rw e (subtag_nul [] ∙ none_subtag, count_nul [] ∙ replacements_none [] refl)

-- and four of them
pub four_nuls : Is (0 ∷ 0 ∷ 0 ∷ 0 ∷ []) [] 0
four_nuls =
    let one = nul_alone 0 refl in (
      subtag_nul (0 ∷ 0 ∷ 0 ∷ []) ∙ subtag_nul (0 ∷ 0 ∷ []) ∙ subtag_nul (0 ∷ []) ∙ one.0,
      count_nul (0 ∷ 0 ∷ 0 ∷ []) ∙ count_nul (0 ∷ 0 ∷ []) ∙ count_nul (0 ∷ []) ∙ one.1,
    )

-- a byte below 80 by itself
pub low_alone : (b : ℕ) → 0 < b → b < 128 → Is (b ∷ []) (b ∷ []) 0
low_alone b h k = (low_subtag b [] h k ∙ ap (λ (t : List ℕ). b ∷ t) none_subtag, low_counted b [] k ∙ replacements_none [] refl)

-- whether a front is one ill-formed byte
abbrev one_ill : Front → Bool
one_ill (Front.WellFormed n) = false
one_ill (Front.IllFormed n) = eqb n 1

one_ill_lem : (f : Front) → one_ill f ≡ true → f ≡ Front.IllFormed 1
one_ill_lem (Front.WellFormed n) h = absurd (false≢true h)
one_ill_lem (Front.IllFormed n) h = ap Front.IllFormed (eqb-true n 1 h)

-- a byte from 80 on by itself: whatever it begins isn't there
high_front : (b : ℕ) → 128 ≤ b → b < 256 → front_of (b ∷ []) ≡ Front.IllFormed 1
unfolding front_of ok_at
high_front b h k =
    let e : 128 + (b - 128) ≡ b = omega arith in
    one_ill_lem (front_of (b ∷ [])) (rw e at (in_row 128 (λ n. one_ill (front_of ((128 + n) ∷ []))) tt (b - 128) (omega arith)))

pub high_alone : (b : ℕ) → 128 ≤ b → b < 256 → Is (b ∷ []) replacement 1
high_alone b h k =
    let e = high_front b h k in
    (ill_subtag b [] e ∙ rw none_subtag, omega (arith, ill_counted b [] e, replacements_none [] refl))

-- a letter up to 80 is a front by itself, so what stands behind it is a subtag of its own
letter_then : (b : ℕ) (s : List ℕ) → 0 < b → b ≤ 128
    → Is (b ∷ s) (subtag_of (b ∷ []) ++ subtag_of s) (replacements (b ∷ []) + replacements s)
letter_then b s h k =
    elim (dec_lt b 128) [
      | yes l ↦ let e = low_alone b h l in
          (low_subtag b s h l ∙ rw e.0, omega (arith, low_counted b s l, e.1))
      | no l ↦ let e = high_alone b (omega arith) (omega arith) in
          let q = high_judged b s (omega arith) (omega arith) in
          (ill_subtag b s q ∙ rw e.0, omega (arith, ill_counted b s q, e.1))
    ]

-- two bytes and two NULs, the first a byte below 80
pub two_letters : (a b : ℕ) → 0 < a → a < 128
    → Is (a ∷ b ∷ 0 ∷ 0 ∷ []) ((a ∷ []) ++ subtag_of (b ∷ [])) (replacements (b ∷ []))
two_letters a b h k = (
  low_subtag a (b ∷ 0 ∷ 0 ∷ []) h k ∙ ap (λ (t : List ℕ). a ∷ t) (subtag_nul (b ∷ 0 ∷ []) ∙ subtag_nul (b ∷ [])),
  low_counted a (b ∷ 0 ∷ 0 ∷ []) k ∙ count_nul (b ∷ 0 ∷ []) ∙ count_nul (b ∷ []),
)

-- three letters up to 80 and a NUL
pub three_letters : (x y z : ℕ) → 0 < x → x ≤ 128 → 0 < y → y ≤ 128
    → Is (x ∷ y ∷ z ∷ 0 ∷ []) (subtag_of (x ∷ []) ++ subtag_of (y ∷ []) ++ subtag_of (z ∷ []))
    (replacements (x ∷ []) + replacements (y ∷ []) + replacements (z ∷ []))
three_letters x y z hx kx hy ky =
    let p = letter_then x (y ∷ z ∷ []) hx kx in
    let q = letter_then y (z ∷ []) hy ky in (
      subtag_nul (x ∷ y ∷ z ∷ []) ∙ p.0 ∙ rw q.0 (sym (append_assoc (subtag_of (x ∷ [])) (subtag_of (y ∷ [])) (subtag_of (z ∷ [])))),
      omega (arith, count_nul (x ∷ y ∷ z ∷ []), p.1, q.1),
    )
