-- A bit from 28 up is set exactly when the number is 2^28 or more. Assumes nothing.
use Prim.Native.Nat.{ℕ, zero, suc, ◌+◌, ◌-◌, ◌/◌, ◌%◌, ◌^◌, ◌≤◌, ◌<◌}
use mathlib.Core.Path.{◌≡◌, sym, ap, ◌∙◌}
use mathlib.Core.Bool.{true, false}
use mathlib.Core.Logic.{◌↔◌}
use native.Mathlib.Nat.{pow-succ', zero-div, div-one, div-div-eq-div-mul}
use native.Mathlib.Omega.{arith}
use native.Mathlib.Decide.{dec_lt}
use lib.Pow.{pow-add}
use borrow.Author.Tests.{eq-eqb, ne_eqb, eqb-false, not-true}
use Rattle.mark.specs.Word.{top_bits}
use Rattle.mark.specs.Demand1.{TopBit}

-- a bit of a number that is set
record Bit (n : ℕ) : Type 0 where
  place : ℕ
  set : n / 2 ^ place % 2 ≡ 1

-- a number that isn't 0 has one; k is as much as the search may take
some_bit : (k n : ℕ) → n ≤ k → (n ≡ 0 → ⊥) → Bit n
some_bit zero n h z = absurd (z (omega arith))
some_bit (suc k) n h z =
    elim (dec_lt 0 (n % 2)) [
      | yes odd ↦ record { place = 0; set = rw (div-one n) (omega arith) }
      | no even ↦
          let half = some_bit k (n / 2) (omega arith) (λ e. z (omega arith)) in
          record { place = suc half.place; set = ap (λ (p : ℕ). n / p % 2) (pow-succ' 2 half.place) ∙ rw (← div-div-eq-div-mul) half.set }
    ]

-- bit 28 + j of a number is bit j of what is above its lowest 28
above : (word j : ℕ) → word / 2 ^ (28 + j) ≡ word / 2 ^ 28 / 2 ^ j
above word j = ap (λ (p : ℕ). word / p) (pow-add 2 28 j) ∙ sym (div-div-eq-div-mul word (2 ^ 28) (2 ^ j))

-- by the number itself
pub top_clear : (word : ℕ) → word < 268435456 → top_bits word ≡ false
top_clear word h = let z : word / 2 ^ 28 ≡ 0 = omega arith in rw (eq-eqb (word / 2 ^ 28) 0 z)

pub top_set : (word : ℕ) → 268435456 ≤ word → top_bits word ≡ true
top_set word h = rw (ne_eqb (word / 2 ^ 28) 0 (λ e. omega arith))

-- and by the bits
pub top_exactly : (word : ℕ) → (top_bits word ≡ true) ↔ TopBit word
top_exactly word = (forth, back) where
  forth : top_bits word ≡ true → TopBit word
  forth e =
      let high = word / 2 ^ 28 in
      let b = some_bit high high (omega arith) (eqb-false high 0 (not-true _ e)) in
      record { place = 28 + b.place; high = omega arith; set = ap (λ (n : ℕ). n % 2) (above word b.place) ∙ b.set }

  back : TopBit word → top_bits word ≡ true
  back b = rw (ne_eqb (word / 2 ^ 28) 0 none) where
    none : word / 2 ^ 28 ≡ 0 → ⊥
    none z =
        let j = b.place - 28 in
        let e : b.place ≡ 28 + j = omega (arith, b.high) in
        let zero-there : word / 2 ^ b.place ≡ 0 = ap (λ (k : ℕ). word / 2 ^ k) e ∙ above word j ∙ ap (λ (n : ℕ). n / 2 ^ j) z ∙ zero-div (2 ^ j) in
        omega (arith, b.set)
