-- The sheet's network code: silent, code 0 and any other code, each exactly where 02 has it. Assumes nothing.
use Prim.Native.Nat.{ℕ, suc}
use mathlib.Core.Path.{◌≡◌, refl, sym, ap, ◌∙◌}
use mathlib.Core.Logic.{◌↔◌}
use mathlib.Core.Bool.{not}
use native.Mathlib.Omega.{arith}
use lib.Dec.{eqb}
use borrow.Author.Tests.{eqb-true, eqb-false, ne_eqb}
use Rattle.laws.proofs.Choice.{chosen_by}
use Rattle.record.specs.Accessors.{mcc_mnc_of}
use Rattle.record.specs.Table.{bit}
use Rattle.places.specs.Places.{places_of}
use Rattle.sheet.specs.declared.NetworkCode.{NetworkCode}
use Rattle.sheet.specs.Sheet.{network_code_of, said_of, sheet_of}
use Rattle.sheet.specs.Claims.{SilentExactly, ZeroExactly, NumberExactly, SilentUnsaid}
use Rattle.sheet.proofs.Bits.{said_at}

-- what holds of 0 and silence, of 65535 and code 0, and of any other number and itself, holds of every number and its code
pub by_code : (P : ℕ → NetworkCode → Type 0) → P 0 NetworkCode.Silent → P 65535 (NetworkCode.Code 0)
    → ((n : ℕ) → (n ≡ 0 → ⊥) → (n ≡ 65535 → ⊥) → P n (NetworkCode.Code n)) → (n : ℕ) → P n (network_code_of n)
by_code P silent zero other n =
    chosen_by (P n) (eqb n 0) (λ s. rw (eqb-true n 0 s) silent)
    (λ s. chosen_by (P n) (eqb n 65535) (λ z. rw (eqb-true n 65535 z) zero) (λ z. other n (eqb-false n 0 s) (eqb-false n 65535 z)))

-- a code as a number: 0 of silence, one more than a code
abbrev code_number : NetworkCode → ℕ
code_number NetworkCode.Silent = 0
code_number (NetworkCode.Code n) = suc n

-- a code isn't silence
not_silent : {A : Type 0} {n : ℕ} → NetworkCode.Code n ≡ NetworkCode.Silent → A
not_silent e = let z = ap code_number e in absurd (omega arith)

-- codes are equal where their numbers are
same_number : {m n : ℕ} → NetworkCode.Code m ≡ NetworkCode.Code n → m ≡ n
same_number e = let z = ap code_number e in omega arith

-- silent exactly for 0
pub silent_exactly : SilentExactly
unfolding sheet_of
silent_exactly r =
    by_code (λ n c. (c ≡ NetworkCode.Silent) ↔ (n ≡ 0)) (λ e. refl, λ e. refl) (λ e. not_silent e, λ e. absurd (omega arith))
    (λ n s z. (λ e. not_silent e, λ e. absurd (s e))) (mcc_mnc_of r).mnc

-- code 0 exactly for 65535
pub zero_exactly : ZeroExactly
unfolding sheet_of
zero_exactly r =
    by_code (λ n c. (c ≡ NetworkCode.Code 0) ↔ (n ≡ 65535)) (λ e. not_silent (sym e), λ e. absurd (omega arith)) (λ e. refl, λ e. refl)
    (λ n s z. (λ e. absurd (s (same_number e)), λ e. absurd (z e))) (mcc_mnc_of r).mnc

-- any other code exactly for itself, which isn't 65535
pub number_exactly : NumberExactly
unfolding sheet_of
number_exactly r k some =
    by_code (λ n c. (c ≡ NetworkCode.Code k) ↔ ((n ≡ k) × (k ≡ 65535 → ⊥))) (λ e. not_silent (sym e), λ e. absurd (some (sym e.0)))
    (λ e. absurd (some (sym (same_number e))), λ e. absurd (e.1 (sym e.0)))
    (λ n s z. (λ e. (same_number e, λ t. z (same_number e ∙ t)), λ e. ap NetworkCode.Code e.0)) (mcc_mnc_of r).mnc

-- not said exactly where it is silent
pub silent_unsaid : SilentUnsaid
unfolding sheet_of said_of places_of
silent_unsaid r =
    let unsaid =
    by_code (λ n c. (bit (not (eqb n 0)) ≡ 0) ↔ (c ≡ NetworkCode.Silent)) (λ e. refl, λ e. refl) (λ e. absurd (omega arith), λ e. not_silent e)
    (λ n s z. rw (ne_eqb n 0 s) (λ e. absurd (omega arith), λ e. not_silent e)) (mcc_mnc_of r).mnc
    in
    (λ e. unsaid.0 (sym (said_at r 1) ∙ e), λ e. said_at r 1 ∙ unsaid.1 e)
