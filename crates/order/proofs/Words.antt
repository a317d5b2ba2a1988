-- Words are compared as numbers: the network code weighs more than the country code. Assumes nothing.
use Prim.Native.Nat.{ℕ, ◌<◌, ◌/◌}
use mathlib.Core.Path.{◌≡◌, refl, sym}
use mathlib.Core.List.{[], ◌∷◌}
use native.Mathlib.Omega.{arith}
use Rattle.record.specs.Accessors.{mcc_mnc_of}
use Rattle.order.specs.Order.{number_order, and_then, lex, order_of}
use Rattle.record.specs.Table.{le}
use Rattle.record.specs.declared.ResTableConfig.{ResTableConfig}
use Rattle.order.specs.declared.Ordering.{Ordering}
use Rattle.order.proofs.Lex.{less_is}

first_less : (x y : ℕ) (o : Ordering) → x / 65536 < y / 65536 → and_then (number_order x y) o ≡ Ordering.Less
first_less x y o h = let g : x < y = omega arith in rw (sym (less_is x y g))

-- the record with the lower network code is Less, whatever the country codes and all else
pub mnc_first : (a b : ResTableConfig) → (mcc_mnc_of a).mnc < (mcc_mnc_of b).mnc → order_of a b ≡ Ordering.Less
unfolding order_of
mnc_first a b h = first_less a.imsi b.imsi _ h

-- so mcc 2 and mnc 0 is Less than mcc 1 and mnc 1
pub by_numbers : (a b : ResTableConfig) → a.imsi ≡ le (2 ∷ 0 ∷ 0 ∷ 0 ∷ []) → b.imsi ≡ le (1 ∷ 0 ∷ 1 ∷ 0 ∷ []) → order_of a b ≡ Ordering.Less
by_numbers a b e f = let p : a.imsi ≡ 2 = e in let q : b.imsi ≡ 65537 = f in mnc_first a b (omega arith)

-- where the stored bytes, compared byte by byte, would say Greater
pub not_by_bytes : lex (2 ∷ 0 ∷ 0 ∷ 0 ∷ []) (1 ∷ 0 ∷ 1 ∷ 0 ∷ []) ≡ Ordering.Greater
not_by_bytes = refl
