-- The rows that can give a value to bytes are those that begin as they do. Assumes nothing.
use Prim.Native.Nat.{ℕ, ◌≤◌}
use mathlib.Core.Path.{◌≡◌, refl, sym, ap, ◌∙◌}
use mathlib.Core.List.{List, [], ◌∷◌, ◌++◌}
use mathlib.Core.Bool.{Bool, true, false, true≢false}
use mathlib.Core.Logic.{◌⊎◌}
use native.Mathlib.Omega.{arith}
use native.Mathlib.Decide.{dec_le}
use lib.ListN.{length, get_or, length-append}
use borrow.Author.Tests.{eq-eqb, ne_eqb, le-leb}
use Rattle.buffer.specs.Ascii.{ascii}
use Rattle.buffer.specs.Decimal.{decimal}
use Rattle.numbers.specs.Numbers.{number_in}
use Rattle.numbers.proofs.Numbers.{digit_first}
use Rattle.grammar.specs.Forms.{Form, Makes}
use Rattle.grammar.specs.Rows.{Row, rows, kind_rows, word_rows, word_row}
use Rattle.grammar.specs.Slots as slot
use Rattle.compare.specs.Compare.{same, begins_with, up_to}
use Rattle.letters.specs.Letters.{language_value, region_value}
use Rattle.letters.proofs.Letters.{language_short}
use Rattle.forms.specs.Values.{number_value, number_before, density_value, pair_value, minor_value}
use Rattle.forms.proofs.Values.{between_back}
use Rattle.parts.specs.Recognised.{value_in, in_slot, nothing, first_of, recognised}
use Rattle.parts.specs.Beginning.{class_of, head_of, leads, beginning, found_by}
use Rattle.parts.proofs.Gives.{makes}

-- a digit's class
digit_class : (b : ℕ) → 48 ≤ b → b ≤ 57 → class_of b ≡ 48
digit_class b l h = rw (le-leb 48 b l, le-leb b 57 h)

-- what begins with a number begins with a digit
pub head_digit : (n : ℕ) (w : List ℕ) → head_of (decimal n ++ w) ≡ 48
head_digit n w = let d = digit_first n in go (decimal n) d.0 d.1 d.2
  where
    go : (u : List ℕ) → 1 ≤ length u → 48 ≤ get_or u 0 0 → get_or u 0 0 ≤ 57 → head_of (u ++ w) ≡ 48
    go [] h l k = absurd (omega arith)
    go (b ∷ u) h l k = digit_class b l k

-- a number between two words begins with the first of them
pub head_front : (front back : List ℕ) (n : ℕ) → head_of (front ++ (decimal n ++ back)) ≡ head_of front
head_front [] back n = head_digit n back
head_front (b ∷ front) back n = refl

-- a part is a language, or it begins as its form says
begins_so : {f : Form} {v : ℕ} {w : List ℕ} → Makes f v w → (f ≡ Form.language) ⊎ (leads f (head_of w) ≡ true)
begins_so (Makes.number {front = f} {back = b} {n = n} h) = ◌⊎◌.inr (eq-eqb _ _ (sym (head_front f b n)))
begins_so (Makes.density {n = n} h e) = ◌⊎◌.inr (eq-eqb _ _ (sym (head_digit n (ascii "dpi"))))
begins_so (Makes.sides {n = n} {m = m} h k f) = ◌⊎◌.inr (eq-eqb _ _ (sym (head_digit n (ascii "x" ++ decimal m))))
begins_so (Makes.minor h k) = ◌⊎◌.inr refl
begins_so (Makes.two_letters a b) = ◌⊎◌.inl refl
begins_so (Makes.three_letters a b c n) = ◌⊎◌.inl refl
begins_so (Makes.two_capitals a b) = ◌⊎◌.inr refl
begins_so (Makes.three_digits a b c) = ◌⊎◌.inr refl
begins_so (Makes.word {w = w}) = ◌⊎◌.inr (eq-eqb (head_of w) (head_of w) refl)

-- a form that begins otherwise gives no value to what is no language
gives_none : (f : Form) (s : List ℕ) → language_value s ≡ 0 → leads f (head_of s) ≡ false → value_in f s ≡ 0
unfolding value_in
gives_none f s l h =
    elim (dec_le 1 (value_in f s)) [
      | no n ↦ omega arith
      | yes n ↦ absurd (go (begins_so (makes f s (value_in f s) refl n)) n)
    ]
  where
    go : (f ≡ Form.language) ⊎ (leads f (head_of s) ≡ true) → 1 ≤ value_in f s → ⊥
    go (◌⊎◌.inr e) n = true≢false (sym e ∙ h)
    go (◌⊎◌.inl e) n = let m : 1 ≤ value_in Form.language s = rw e at n in omega arith

-- so only the rows that begin so count
by_head : (rs : List Row) (s : List ℕ) → language_value s ≡ 0 → first_of rs s ≡ first_of (beginning (head_of s) rs) s
unfolding first_of beginning
by_head [] s l = refl
by_head (r ∷ rs) s l = go (leads r.1 (head_of s)) refl (by_head rs s l)
  where
    go : (b : Bool) → leads r.1 (head_of s) ≡ b → first_of rs s ≡ first_of (beginning (head_of s) rs) s
        → first_of (r ∷ rs) s ≡ first_of (beginning (head_of s) (r ∷ rs)) s
    go true e h = rw (e, h)
    go false e h = rw (e, gives_none r.1 s l e) h

-- what is no language is found among the rows that begin as it does
pub recognised_by : (k : ℕ) (s : List ℕ) → language_value s ≡ 0 → head_of s ≡ k → found_by k s ≡ recognised s
unfolding recognised
recognised_by k s l e = rw (← e) (sym (by_head rows s l))

-- the first of some bytes, by its class
head_is : (s : List ℕ) → (length s ≡ 0 → ⊥) → head_of s ≡ class_of (get_or s 0 0)
head_is [] h = absurd (h refl)
head_is (b ∷ s) h = refl

-- the same by the first byte
pub recognised_first : (s : List ℕ) → (length s ≡ 0 → ⊥) → language_value s ≡ 0 → found_by (class_of (get_or s 0 0)) s ≡ recognised s
recognised_first s h l = recognised_by (class_of (get_or s 0 0)) s l (head_is s h)

-- nothing is no part
pub recognised_empty : (s : List ℕ) → length s ≡ 0 → nothing ≡ recognised s
unfolding recognised first_of rows kind_rows word_rows word_row value_in number_value begins_with number_before number_in same density_value pair_value up_to minor_value language_value region_value
recognised_empty [] h = refl
recognised_empty (b ∷ s) h = absurd (omega arith)

-- a number behind three letters is longer than a language
long_none : (a b c : ℕ) (s : List ℕ) → length s ≤ 3 → number_value (a ∷ b ∷ c ∷ []) [] s ≡ 0
long_none a b c s h =
    elim (dec_le 1 (number_value (a ∷ b ∷ c ∷ []) [] s)) [
      | no n ↦ omega arith
      | yes n ↦
          let v = number_value (a ∷ b ∷ c ∷ []) [] s in
          let m = (between_back (a ∷ b ∷ c ∷ []) [] s v refl n).0 in
          absurd (omega (arith, ap length m, length-append (a ∷ b ∷ c ∷ []) (decimal v ++ []), length-append (decimal v) [], (digit_first v).0))
    ]

-- a language is a language
pub recognised_language : (s : List ℕ) {v : ℕ} → v ≡ language_value s → (v ≡ 0 → ⊥) → in_slot slot.language v ≡ recognised s
unfolding recognised first_of rows value_in
recognised_language s {v} e h =
    let n : 1 ≤ language_value s = omega arith in
    let l = language_short s n in
    rw (long_none 109 99 99 s l, long_none 109 110 99 s l, ← e, ne_eqb v 0 h)
