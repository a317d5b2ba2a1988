-- Laws of `number_in`, both ways against `decimal`. Assumes nothing.
use Prim.Native.Nat.{ℕ, zero, suc, ◌+◌, ◌*◌, ◌-◌, ◌/◌, ◌%◌, ◌≤◌, ◌<◌}
use mathlib.Core.Path.{◌≡◌, refl, sym, ap, ◌∙◌}
use mathlib.Core.List.{List, [], ◌∷◌, ◌++◌, append_assoc}
use mathlib.Core.Bool.{true, false}
use native.Mathlib.Omega.{arith}
use native.Mathlib.Decide.{dec_le, dec_lt, ℕ_discrete}
use native.Mathlib.Numerals.{add-one}
use lib.ListN.{length, get_or, drop, drop_of_length-le}
use lib.Seq.{drop-cons}
use borrow.Author.Tests.{lt-ltb, le-ltb, le-leb, lt-leb, eq-eqb, ne_eqb}
use Rattle.std.specs.Option.{SomeIff}
use Rattle.std.specs.Result.{OkIff, result_ok}
use Rattle.std.proofs.Common.{Option, Some, None, Result, Ok, Err}
use Rattle.buffer.specs.Decimal.{decimal}
use Rattle.buffer.proofs.Digits.{decimal_one, decimal_more}
use Rattle.numbers.specs.Numbers.{none, further, further_all, leading_zero, number_in}

-- a step: below, above, fits, does not
pub further_low : (n b : ℕ) → b < 48 → none ≡ further n b
unfolding further
further_low n b h = rw (lt-leb 48 b h)

pub further_high : (n b : ℕ) → 57 < b → none ≡ further n b
unfolding further
further_high n b h = rw (le-leb 48 b (omega arith), lt-leb b 57 h)

pub further_fits : (n b : ℕ) → 48 ≤ b → b ≤ 57 → n * 10 + (b - 48) ≤ 65535 → n * 10 + (b - 48) ≡ further n b
unfolding further
further_fits n b l h f = rw (le-leb 48 b l, le-leb b 57 h, le-leb (n * 10 + (b - 48)) 65535 f)

pub further_large : (n b : ℕ) → 48 ≤ b → b ≤ 57 → 65535 < n * 10 + (b - 48) → none ≡ further n b
unfolding further
further_large n b l h f = rw (le-leb 48 b l, le-leb b 57 h, lt-leb (n * 10 + (b - 48)) 65535 f)

-- a step gives the number with one more digit, or none
further_cases : (P : ℕ → Type 0) (n b : ℕ) → (48 ≤ b → b ≤ 57 → n * 10 + (b - 48) ≤ 65535 → P (n * 10 + (b - 48))) → P none → P (further n b)
further_cases P n b f g =
    elim (dec_le 48 b) [
      | no l ↦ rw (← further_low n b (omega arith)) g
      | yes l ↦ elim (dec_le b 57) [
        | no k ↦ rw (← further_high n b (omega arith)) g
        | yes k ↦ elim (dec_le (n * 10 + (b - 48)) 65535) [
          | no m ↦ rw (← further_large n b l k (omega arith)) g
          | yes m ↦ rw (← further_fits n b l k m) (f l k m)
        ]
      ]
    ]

pub further_most : (n b : ℕ) → further n b ≤ 65536
further_most n b = further_cases (λ m. m ≤ 65536) n b (λ l h f. omega arith) (omega arith)

-- what a success holds
pub kept_ok : {E : Type 0} (P : Type 0) (v : ℕ) (r : Result ℕ E) → OkIff r P v → SomeIff (result_ok r) P v
kept_ok P v (Ok x) h = h
kept_ok P v (Err e) h = h

-- one more digit, as far as there are 16 bits
pub further_is : (n b : ℕ) (r : Option ℕ) → 48 ≤ b → b ≤ 57 → SomeIff r (n * 10 + (b - 48) < 65536) (n * 10 + (b - 48)) → SomeIff r (further n b ≤ 65535) (further n b)
further_is n b None l h e = λ g. let f : 65535 < n * 10 + (b - 48) = omega (arith, e) in omega (arith, g, further_large n b l h f)
further_is n b (Some x) l h e = let f = further_fits n b l h (omega (arith, e.0)) in (omega (arith, e.0, f), e.1 ∙ f)

-- none is kept
lost : (n b : ℕ) → 65536 ≤ n → further n b ≡ none
lost n b h = further_cases (λ m. m ≡ none) n b (λ l k f. absurd (omega arith)) refl

kept_none : (s : List ℕ) → further_all none s ≡ none
unfolding further_all
kept_none [] = refl
kept_none (b ∷ s) = rw (lost none b (omega arith)) (kept_none s)

-- one more digit at the end
further_snoc : (n : ℕ) (s : List ℕ) (b : ℕ) → further_all n (s ++ (b ∷ [])) ≡ further (further_all n s) b
unfolding further_all
further_snoc n [] b = refl
further_snoc n (a ∷ s) b = further_snoc (further n a) s b

-- the digits of a number give it again
forth_by : (k n : ℕ) → n ≤ k → n ≤ 65535 → further_all 0 (decimal n) ≡ n
unfolding further_all
forth_by zero n h m = rw (decimal_one n (omega arith)) (sym (further_fits 0 (48 + n) (omega arith) (omega arith) (omega arith)) ∙ omega arith)
forth_by (suc k) n h m =
    elim (dec_lt n 10) [
      | yes l ↦ rw (decimal_one n l) (sym (further_fits 0 (48 + n) (omega arith) (omega arith) (omega arith)) ∙ omega arith)
      | no l ↦ rw (decimal_more n (omega arith), further_snoc, forth_by k (n / 10) (omega arith) (omega arith))
          (sym (further_fits (n / 10) (48 + n % 10) (omega arith) (omega arith) (omega arith)) ∙ omega arith)
    ]

-- a number that isn't 0 begins with a digit that isn't 0
pub record Leads (s : List ℕ) : Type 0 where
  pub there : 1 ≤ length s
  pub low : 49 ≤ get_or s 0 0
  pub high : get_or s 0 0 ≤ 57

leads_more : (s t : List ℕ) → Leads s → Leads (s ++ t)
leads_more [] t l = absurd (omega (arith, l.there))
leads_more (a ∷ s) t l = record { there = omega arith; low = l.low; high = l.high }

leads_by : (k n : ℕ) → n ≤ k → 1 ≤ n → Leads (decimal n)
leads_by zero n h m = absurd (omega arith)
leads_by (suc k) n h m =
    elim (dec_lt n 10) [
      | yes l ↦ rw (decimal_one n l) (record { there = omega arith; low = omega arith; high = omega arith })
      | no l ↦ rw (decimal_more n (omega arith)) (leads_more (decimal (n / 10)) _ (leads_by k (n / 10) (omega arith) (omega arith)))
    ]

pub decimal_leads : (n : ℕ) → 1 ≤ n → Leads (decimal n)
decimal_leads n h = leads_by n n (omega arith) h

-- what no zero in front says
pub number_led : (s : List ℕ) → 1 ≤ length s → (1 < length s → get_or s 0 0 ≡ 48 → ⊥) → number_in s ≡ further_all 0 s
unfolding number_in
number_led s h f =
    elim (dec_lt 1 (length s)) [
      | yes l ↦ rw (ne_eqb (length s) 0 (λ e. omega arith), lt-ltb 1 (length s) l, ne_eqb (get_or s 0 0) 48 (f l))
      | no l ↦ rw (ne_eqb (length s) 0 (λ e. omega arith), le-ltb 1 (length s) (omega arith))
    ]

pub number_forth : (n : ℕ) → n ≤ 65535 → number_in (decimal n) ≡ n
number_forth n m =
    elim (dec_lt n 10) [
      | yes l ↦ number_led (decimal n) (rw (decimal_one n l) (omega arith)) (λ g e. absurd (let g' = rw (decimal_one n l) at g in omega arith)) ∙ forth_by n n (omega arith) m
      | no l ↦ let d = decimal_leads n (omega arith) in number_led (decimal n) d.there (λ g e. absurd (omega (arith, d.low))) ∙ forth_by n n (omega arith) m
    ]

-- and whatever gives a number is its digits
append_nil : (s : List ℕ) → s ++ [] ≡ s
append_nil [] = refl
append_nil (a ∷ s) = ap (λ (l : List ℕ). a ∷ l) (append_nil s)

none_no : (s : List ℕ) (n : ℕ) → further_all none s ≡ n → n ≤ 65535 → ⊥
none_no s n e h = omega (arith, e, kept_none s)

one_digit_more : (m b : ℕ) → 1 ≤ m → 48 ≤ b → b ≤ 57 → decimal (m * 10 + (b - 48)) ≡ decimal m ++ (b ∷ [])
one_digit_more m b h l k =
    let q : (m * 10 + (b - 48)) / 10 ≡ m = omega arith in
    let r : 48 + (m * 10 + (b - 48)) % 10 ≡ b = omega arith in
    decimal_more (m * 10 + (b - 48)) (omega arith) ∙ rw (q, r)

back_by : (s : List ℕ) (m n : ℕ) → 1 ≤ m → further_all m s ≡ n → n ≤ 65535 → decimal m ++ s ≡ decimal n
unfolding further_all
back_by [] m n h e f = append_nil (decimal m) ∙ ap decimal e
back_by (b ∷ s) m n h e f =
    further_cases (λ x. further_all x s ≡ n → decimal m ++ b ∷ s ≡ decimal n) m b
    (λ l k z g. sym (append_assoc (decimal m) (b ∷ []) s) ∙ rw (← one_digit_more m b h l k) (back_by s (m * 10 + (b - 48)) n (omega arith) g f))
    (λ g. absurd (none_no s n g f)) e

one_digit : (b : ℕ) → 48 ≤ b → b ≤ 57 → decimal (0 * 10 + (b - 48)) ≡ b ∷ []
one_digit b l h = let e : 48 + (0 * 10 + (b - 48)) ≡ b = omega arith in decimal_one (0 * 10 + (b - 48)) (omega arith) ∙ rw e

-- the code's ways
pub number_empty : (s : List ℕ) → length s ≡ 0 → none ≡ number_in s
unfolding number_in
number_empty s h = rw (eq-eqb (length s) 0 h)

pub number_zero : (s : List ℕ) → leading_zero s ≡ true → none ≡ number_in s
unfolding number_in
number_zero s h =
    elim (ℕ_discrete (length s) 0) [
      | yes z ↦ rw (eq-eqb (length s) 0 z)
      | no z ↦ rw (ne_eqb (length s) 0 z, h)
    ]

pub number_is : (s : List ℕ) → (length s ≡ 0 → ⊥) → leading_zero s ≡ false → number_in s ≡ further_all 0 s
unfolding number_in
number_is s h f = rw (ne_eqb (length s) 0 h, f)

pub further_at : (s : List ℕ) (i n : ℕ) → i < length s → further_all n (drop i s) ≡ further_all (further n (get_or s i 0)) (drop (i + 1) s)
unfolding further_all
further_at s i n h = rw (drop-cons s i 0 h, add-one)

pub further_lost : (s : List ℕ) (i n : ℕ) → i < length s → (further n (get_or s i 0) ≤ 65535 → ⊥) → further_all n (drop i s) ≡ none
further_lost s i n h f =
    let e : further n (get_or s i 0) ≡ none = omega (arith, f, further_most n (get_or s i 0)) in
    further_at s i n h ∙ rw e (kept_none (drop (i + 1) s))

pub further_end : (s : List ℕ) (i n : ℕ) → length s ≤ i → further_all n (drop i s) ≡ n
unfolding further_all
further_end s i n h = rw (drop_of_length-le s h)

-- what gives a number is its digits
pub number_back : (s : List ℕ) (n : ℕ) → number_in s ≡ n → n ≤ 65535 → s ≡ decimal n
unfolding further_all
number_back [] n e h = absurd (omega (arith, number_empty [] refl))
number_back (b ∷ []) n e h =
    further_cases (λ x. x ≡ n → b ∷ [] ≡ decimal n) 0 b (λ l k z g. sym (one_digit b l k) ∙ ap decimal g) (λ g. absurd (omega arith))
    (sym (number_led (b ∷ []) (omega arith) (λ l g. omega arith)) ∙ e)
number_back (b ∷ c ∷ s) n e h =
    elim (ℕ_discrete b 48) [
      | yes z ↦ absurd (omega (arith, number_zero (b ∷ c ∷ s) (rw (lt-ltb 1 (length (b ∷ c ∷ s)) (omega arith), eq-eqb b 48 z))))
      | no z ↦ further_cases (λ x. further_all x (c ∷ s) ≡ n → b ∷ c ∷ s ≡ decimal n) 0 b
          (λ l k f g. let w : b ≡ 48 → ⊥ = z in rw (one_digit b l k) at (back_by (c ∷ s) (0 * 10 + (b - 48)) n (omega arith) g h))
          (λ g. absurd (none_no (c ∷ s) n g h))
          (sym (number_led (b ∷ c ∷ s) (omega arith) (λ l g. z g)) ∙ e)
    ]

-- any number begins with a digit
pub digit_first : (n : ℕ) → (1 ≤ length (decimal n)) × (48 ≤ get_or (decimal n) 0 0) × (get_or (decimal n) 0 0 ≤ 57)
digit_first n =
    elim (dec_le 1 n) [
      | yes h ↦ let d = decimal_leads n h in (d.there, omega (arith, d.low), d.high)
      | no h ↦ rw (decimal_one n (omega arith)) (omega arith, omega arith, omega arith)
    ]
