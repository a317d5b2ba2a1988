-- The forms with numbers, by the ways that the code goes. Assumes nothing.
use Prim.Native.Nat.{ℕ, ◌+◌, ◌*◌, ◌-◌, ◌≤◌, ◌<◌}
use mathlib.Core.Path.{◌≡◌, refl, sym, ◌∙◌}
use mathlib.Core.List.{List, [], ◌∷◌}
use mathlib.Core.Bool.{Bool, true, false, cond, ◌&&◌, not, true≢false}
use native.Mathlib.Omega.{arith}
use native.Mathlib.Decide.{dec_le}
use lib.Dec.{eqb, leb}
use lib.ListN.{length, take, drop}
use borrow.Author.Tests.{le-leb, lt-leb, leb-true, ne_eqb, eq-eqb}
use Rattle.std.specs.Bool.{then_some}
use Rattle.std.specs.Option.{SomeIff}
use Rattle.std.specs.Str.{bytes_eq}
use Rattle.std.proofs.Common.{Option}
use Rattle.laws.proofs.Choice.{chosen_by}
use Rattle.laws.proofs.Tests.{and_both}
use Rattle.buffer.specs.Ascii.{ascii}
use Rattle.kinds.specs.Screen.{density_of}
use Rattle.compare.specs.Compare.{same, begins_with, up_to}
use Rattle.compare.proofs.Compare.{same_is, strips_is}
use Rattle.numbers.specs.Numbers.{number_in}
use Rattle.forms.specs.Values.{proper, number_before, number_value, unnamed, density_value, pair_value, minor_value}

-- a value that is kept where a test holds
pub kept_if : (b : Bool) (v : ℕ) {r : Option ℕ} → (b ≡ true → 0 < v) → r ≡ then_some b v → SomeIff r (0 < cond b v 0) (cond b v 0)
kept_if true v h e = rw e (h refl, refl)
kept_if false v h e = rw e (λ g. absurd (omega arith))

-- a number that isn't 0 is kept
pub kept_positive : (n v : ℕ) {r : Option ℕ} → n ≡ v → r ≡ then_some (not (eqb n 0)) n → SomeIff r (0 < v) v
kept_positive n v e h = rw (← e) (go h)
  where
    go : {r : Option ℕ} → r ≡ then_some (not (eqb n 0)) n → SomeIff r (0 < n) n
    go {r = r} h = elim (dec_le 1 n) [
      | yes l ↦ let m : r ≡ then_some true n = rw (ne_eqb n 0 (λ e. omega arith)) at h in rw m (l, refl)
      | no l ↦ let m : r ≡ then_some false n = rw (eq-eqb n 0 (omega arith)) at h in rw m l
    ]

-- no number of more than 16 bits is kept
proper_none : (n : ℕ) → 65535 < n → proper n ≡ 0
proper_none n h = rw (lt-leb n 65535 h)

proper_is : (n : ℕ) → n ≤ 65535 → proper n ≡ n
proper_is n h = rw (le-leb n 65535 h)

-- a test that fails with another
none_here : (x : Bool) (n : ℕ) → 0 ≡ cond (x && false) n 0
none_here true n = refl
none_here false n = refl

-- bytes that don't begin with the front
pub front_not : (front back s : List ℕ) → bytes_eq (take (length front) s) front ≡ false → 0 ≡ number_value front back s
unfolding number_value
front_not front back s e = rw (sym (strips_is front s) ∙ e)

-- bytes that do, and t is behind it
module _ (front back s t : List ℕ) (p : bytes_eq (take (length front) s) front ≡ true) (q : t ≡ drop (length front) s) where
  behind : number_before back t ≡ number_value front back s
  unfolding number_value
  behind = rw (q, sym (strips_is front s) ∙ p)

  -- they don't end with the back
  pub back_not : bytes_eq (drop (length t - length back) t) back ≡ false → 0 ≡ number_value front back s
  unfolding number_before
  back_not e = rw (← behind, sym (same_is (drop (length t - length back) t) back) ∙ e) (none_here (leb (length back) (length t)) _)

  -- they do, and the number is between
  pub between : (d : List ℕ) → bytes_eq (drop (length t - length back) t) back ≡ true → d ≡ take (length t - length back) t → length d + length back ≡ length t
      → proper (number_in d) ≡ number_value front back s
  unfolding number_before
  between d e f g = rw (← behind, le-leb (length back) (length t) (omega arith), sym (same_is (drop (length t - length back) t) back) ∙ e, f)

  pub between_none : (d : List ℕ) → bytes_eq (drop (length t - length back) t) back ≡ true → d ≡ take (length t - length back) t → length d + length back ≡ length t
      → (number_in d ≤ 65535 → ⊥) → 0 ≡ number_value front back s
  between_none d e f g n = sym (proper_none (number_in d) (omega (arith, n))) ∙ between d e f g

  pub between_some : (d : List ℕ) → bytes_eq (drop (length t - length back) t) back ≡ true → d ≡ take (length t - length back) t → length d + length back ≡ length t
      → number_in d ≤ 65535 → number_in d ≡ number_value front back s
  between_some d e f g n = sym (proper_is (number_in d) n) ∙ between d e f g

-- both numbers
abbrev pub BothSmall : ℕ → List ℕ → Type 0
BothSmall b s = (number_in (take (up_to b s) s) ≤ 65535) × (number_in (drop (up_to b s + 1) s) ≤ 65535)

-- two numbers with a value are both of 16 bits
pub pair_known : (b : ℕ) (s : List ℕ) → 0 < pair_value b s → BothSmall b s
unfolding pair_value
pair_known b s =
    let n = number_in (take (up_to b s) s) in
    let m = number_in (drop (up_to b s + 1) s) in
    chosen_by (λ (x : ℕ). 0 < x → BothSmall b s) (leb n 65535 && leb m 65535)
    (λ t h. let q = and_both {a = leb n 65535} {b = leb m 65535} t in (leb-true n 65535 q.0, leb-true m 65535 q.1))
    (λ t h. absurd (omega arith))

-- and two of 16 bits have one
pub pair_is : (b : ℕ) (s : List ℕ) → BothSmall b s → number_in (take (up_to b s) s) + number_in (drop (up_to b s + 1) s) * 65536 ≡ pair_value b s
unfolding pair_value
pair_is b s h = rw (le-leb _ 65535 h.0, le-leb _ 65535 h.1)

-- no 'v' in front
pub minor_not : (s : List ℕ) → begins_with (ascii "v") s ≡ false → 0 ≡ minor_value s
unfolding minor_value
minor_not s e = rw e

-- a 'v' in front is a byte
pub begins_some : (s : List ℕ) → begins_with (ascii "v") s ≡ true → 1 ≤ length s
unfolding begins_with same
begins_some [] e = absurd (true≢false (sym e))
begins_some (x ∷ s) e = omega arith

-- a 'v' in front: the two numbers behind it, where the minor one isn't 0
pub minor_is : (s : List ℕ) → begins_with (ascii "v") s ≡ true → cond (leb 65536 (pair_value 46 (drop 1 s))) (pair_value 46 (drop 1 s)) 0 ≡ minor_value s
unfolding minor_value
minor_is s e = rw e

pub minor_known : (s : List ℕ) → 0 < minor_value s → 0 < pair_value 46 (drop 1 s)
unfolding minor_value
minor_known s =
    chosen_by (λ (x : ℕ). 0 < x → 0 < pair_value 46 (drop 1 s)) (begins_with (ascii "v") s && leb 65536 (pair_value 46 (drop 1 s))) (λ t h. h) (λ t h. absurd (omega arith))

-- what is no number is no density
pub density_none : (s : List ℕ) → number_value [] (ascii "dpi") s ≡ 0 → 0 ≡ density_value s
unfolding density_value
density_none s e = rw e refl

-- the density of a number
pub density_is : (s : List ℕ) → unnamed (density_of (number_value [] (ascii "dpi") s)) ≡ density_value s
unfolding density_value
density_is s = refl
