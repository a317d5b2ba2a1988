-- Bytes that are put the last one first. Assumes nothing.
use Prim.Native.Nat.{ℕ, zero, suc, ◌+◌, ◌/◌, ◌%◌, ◌≤◌, ◌<◌, min}
use mathlib.Core.Path.{◌≡◌, refl, ap, ◌∙◌}
use mathlib.Core.List.{List, [], ◌∷◌, ◌++◌}
use native.Mathlib.Decide.{dec_le}
use native.Mathlib.Omega.{arith}
use lib.ListN.{length, set}
use Rattle.buffer.specs.Decimal.{decimal}
use Rattle.buffer.specs.Put.{put_at, Put}
use Rattle.buffer.proofs.Digits.{decimal_one, decimal_more, decimal_more_length, decimal_one_length, decimal_some}
use Rattle.buffer.proofs.Putting.{reach_fits, reach_full}

-- two bytes at different offsets, in either order
set_later : (l : List ℕ) (i j b c : ℕ) → i < j → set (set l i b) j c ≡ set (set l j c) i b
set_later [] i j b c h = refl
set_later (x ∷ l) i zero b c h = absurd (omega arith)
set_later (x ∷ l) zero (suc j) b c h = refl
set_later (x ∷ l) (suc i) (suc j) b c h = ap (λ (r : List ℕ). x ∷ r) (set_later l i j b c (omega arith))

-- the last byte may be put before the others
put_last : (o : List ℕ) (at : ℕ) (u : List ℕ) (b : ℕ) → put_at o at (u ++ b ∷ []) ≡ put_at (set o (at + length u) b) at u
unfolding put_at
put_last o at [] b = let e : at + 0 ≡ at = omega arith in rw e
put_last o at (c ∷ u) b =
    let e : suc at + length u ≡ at + suc (length u) = omega arith in
    put_last (set o at c) (suc at) u b
    ∙ ap (λ (l : List ℕ). put_at l (suc at) u) (rw e (set_later o at (at + suc (length u)) c b (omega arith)))

-- the last digit of a number, put before those in front of it
pub digit_last : (o : List ℕ) (at n j : ℕ) {new : List ℕ} {r : ℕ} → 10 ≤ n → j + 1 ≡ at + length (decimal n) → Put o j ((48 + n % 10) ∷ []) new r
    → (j ≡ at + length (decimal (n / 10))) × (put_at new at (decimal (n / 10)) ≡ put_at o at (decimal n))
unfolding put_at
digit_last o at n j h e p =
    let k : j ≡ at + length (decimal (n / 10)) = omega (arith, e, decimal_more_length n h) in
    (k, rw (decimal_more n h, put_last o at (decimal (n / 10)) (48 + n % 10), ← k, ← p.holds))

-- its only one
pub digit_one : {o : List ℕ} {at n : ℕ} {new : List ℕ} {r : ℕ} → n < 10 → Put o at ((48 + n) ∷ []) new r → new ≡ put_at o at (decimal n)
digit_one {o} {at} {n} h p = rw (decimal_one n h) p.holds

-- of a number's digits that are put backwards, those up to offset i are left, which make the buffer whole
abbrev pub DigitsLeft : List ℕ → ℕ → ℕ → ℕ → List ℕ → Type 0
DigitsLeft o at n i whole = (i ≡ at + length (decimal n)) × (put_at o at (decimal n) ≡ whole)

-- where more than one is left, there is one behind the first
digits_more : (at n i : ℕ) → i ≡ at + length (decimal n) → at + 1 < i → 10 ≤ n
digits_more at n i e h =
    elim (dec_le 10 n) [
      | yes m ↦ m
      | no m ↦ absurd (omega (arith, e, decimal_one_length n (omega arith)))
    ]

-- one more behind the first is put
pub digit_put : {o : List ℕ} {at : ℕ} (n : ℕ) {j i : ℕ} {whole : List ℕ} {new : List ℕ} {r : ℕ}
    → suc at ≤ j → j + 1 ≡ i → DigitsLeft o at n i whole → Put o j ((48 + n % 10) ∷ []) new r → DigitsLeft new at (n / 10) j whole
digit_put {o} {at} n {j} {i} h e d p =
    let l = digit_last o at n j (digits_more at n i d.0 (omega arith)) (e ∙ d.0) p in
    (l.0, l.1 ∙ d.1)

-- where no more than one is left, it is the first
pub digits_first : {at : ℕ} (n : ℕ) {i : ℕ} → i ≤ suc at → i ≡ at + length (decimal n) → n < 10
digits_first {at} n h e =
    elim (dec_le 10 n) [
      | yes m ↦ absurd (omega (arith, e, decimal_more_length n m, decimal_some (n / 10)))
      | no m ↦ omega arith
    ]

-- a writer that has put all bytes stops behind them, or at the buffer's end
pub put_within : {o : List ℕ} {at : ℕ} {w : List ℕ} {n : List ℕ} {r : ℕ} → n ≡ put_at o at w → at ≤ length o → r ≡ min (at + length w) (length o) → Put o at w n r
put_within {o} {at} {w} e h k = record {
  ends =
      elim (dec_le (at + length w) (length o)) [
        | yes m ↦ omega (arith, k, reach_fits (length o) at w m)
        | no m ↦ omega (arith, k, reach_full (length o) at w h (omega arith))
      ];
  holds = e;
}
