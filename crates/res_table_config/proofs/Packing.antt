-- An answer and what it tells are one thing: number, amount and what is carried come back. Assumes nothing.
use Prim.Native.Nat.{ℕ, ◌<◌}
use mathlib.Core.Path.{◌≡◌, refl, sym, ap, ◌∙◌}
use mathlib.Core.Bool.{Bool, true, false, cond}
use native.Mathlib.Omega.{arith}
use lib.Dec.{eqb}
use borrow.Author.Tests.{eq-eqb, eqb-true, eqb-false}
use Rattle.answers.specs.declared.Told.{Told}
use Rattle.answers.specs.Tells.{success, low_of, packed_of}
use Rattle.res_table_config.specs.Face.{upper, lower, answer_tells}
use Rattle.res_table_config.specs.Small.{Small}

told_same : {m n k l i j : ℕ} → m ≡ n → k ≡ l → i ≡ j → ◌≡◌ {A = Told} (record { number = m; amount = k; carried = i }) (record { number = n; amount = l; carried = j })
told_same p q r = cc

-- what is told of a number and a low half: the half is the amount of a success, or what a refusal carries
abbrev halves : ℕ → ℕ → Told
halves number low = cond (eqb number 0) (success low) (record { number = number; amount = 0; carried = low })

-- of what is told without loss, nothing is lost in its halves
halves_back : (t : Told) → Small t → halves t.number (low_of t) ≡ t
halves_back t small = by (eqb t.number 0) refl where
  by : (b : Bool) → eqb t.number 0 ≡ b → halves t.number (low_of t) ≡ t
  by true e = let z = eqb-true t.number 0 e in rw e (told_same (sym z) refl (sym (small.clear z)))
  by false e = rw e (told_same refl (sym (small.bare (eqb-false t.number 0 e))) refl)

low_small : (t : Told) → Small t → low_of t < 4294967296
low_small t small = by (eqb t.number 0) where
  by : (b : Bool) → cond b t.amount t.carried < 4294967296
  by true = small.amount
  by false = small.carried

-- what is told comes back from its packed number by / and % 2^32
pub unpacked : (t : Told) → Small t → answer_tells (packed_of t) ≡ t
unpacked t small =
    let l = low_small t small in
    let u : upper (packed_of t) ≡ t.number = omega arith in
    let v : lower (packed_of t) ≡ low_of t = omega arith in
    ap (λ (n : ℕ). halves n (lower (packed_of t))) u ∙ ap (halves t.number) v ∙ halves_back t small

-- an answer is what it tells, packed
pub packed_back : (r : ℕ) → packed_of (answer_tells r) ≡ r
packed_back r = by (eqb (upper r) 0) refl where
  by : (b : Bool) → eqb (upper r) 0 ≡ b → packed_of (answer_tells r) ≡ r
  by true e = let z = eqb-true (upper r) 0 e in rw e (omega arith)
  by false e = rw e (rw e (omega arith))

-- so an answer that tells t is t, packed
pub packed_is : (r : ℕ) (t : Told) → answer_tells r ≡ t → r ≡ packed_of t
packed_is r t e = sym (packed_back r) ∙ ap packed_of e

-- a success is its amount
pub amount_tells : (n : ℕ) → n < 4294967296 → answer_tells n ≡ success n
amount_tells n h =
    let u : upper n ≡ 0 = omega arith in
    let v : lower n ≡ n = omega arith in
    rw (eq-eqb (upper n) 0 u) (ap success v)
