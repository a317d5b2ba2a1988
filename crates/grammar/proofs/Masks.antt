-- What a mask leaves of a byte: two bytes with the same digits behind the mask give the same. Assumes nothing.
use Prim.Native.Nat.{ℕ, ◌*◌, ◌/◌, ◌%◌, ◌<◌}
use mathlib.Core.Path.{◌≡◌, sym, ap, ◌∙◌}
use lib.Bits.{bit_and}
use lib.Dec.{T, eqb}
use borrow.Author.Tests.{eqb-true}
use Rattle.laws.specs.Below.{each_below}
use Rattle.laws.proofs.Below.{in_row}

-- where f is a unit times some digits at every byte, by computing it, bytes with the same digits give the same
by_bytes : (f digits : ℕ → ℕ) (unit : ℕ) → T (each_below 256 (λ m. eqb (f m) (digits m * unit)))
    → (n v : ℕ) → n < 256 → v < 256 → digits n ≡ digits v → f n ≡ f v
by_bytes f digits unit t n v h k e =
    let is : (m : ℕ) → m < 256 → f m ≡ digits m * unit = λ m l. eqb-true (f m) (digits m * unit) (in_row 256 (λ i. eqb (f i) (digits i * unit)) t m l) in
    is n h ∙ ap (λ (d : ℕ). d * unit) e ∙ sym (is v k)

-- the top two bits; bits 4 and 5; the low four; bits 2 and 3; the low two
pub mask_c0 : (n v : ℕ) → n < 256 → v < 256 → n / 64 ≡ v / 64 → bit_and n 0xc0 ≡ bit_and v 0xc0
mask_c0 = by_bytes (λ m. bit_and m 0xc0) (λ m. m / 64) 64 tt

pub mask_30 : (n v : ℕ) → n < 256 → v < 256 → n / 16 % 4 ≡ v / 16 % 4 → bit_and n 0x30 ≡ bit_and v 0x30
mask_30 = by_bytes (λ m. bit_and m 0x30) (λ m. m / 16 % 4) 16 tt

pub mask_0f : (n v : ℕ) → n < 256 → v < 256 → n % 16 ≡ v % 16 → bit_and n 0x0f ≡ bit_and v 0x0f
mask_0f = by_bytes (λ m. bit_and m 0x0f) (λ m. m % 16) 1 tt

pub mask_0c : (n v : ℕ) → n < 256 → v < 256 → n / 4 % 4 ≡ v / 4 % 4 → bit_and n 0x0c ≡ bit_and v 0x0c
mask_0c = by_bytes (λ m. bit_and m 0x0c) (λ m. m / 4 % 4) 4 tt

pub mask_03 : (n v : ℕ) → n < 256 → v < 256 → n % 4 ≡ v % 4 → bit_and n 0x03 ≡ bit_and v 0x03
mask_03 = by_bytes (λ m. bit_and m 0x03) (λ m. m % 4) 1 tt
