-- Bytes packed into one number: how they are packed, and that the numbers are ordered as the bytes are. Assumes nothing.
use Prim.Native.Nat.{ℕ, suc, ◌+◌, ◌*◌, ◌<◌}
use mathlib.Core.Path.{◌≡◌, sym, ap, ◌∙◌}
use mathlib.Core.List.{List, [], ◌∷◌}
use native.Mathlib.Omega.{arith}
use lib.ListN.{length}
use Rattle.laws.proofs.Lists.{listed, elements, Each}
use Rattle.record.specs.Table.{Bytes}
use Rattle.record.proofs.Bytes.{each_byte}
use Rattle.order.specs.Order.{number_order, and_then, lex}
use Rattle.order.specs.Packed.{be_after, Packed}
use Rattle.order.specs.declared.Ordering.{Ordering}
use Rattle.order.proofs.Lex.{less_is, greater_is, equal_is, by_order, assoc, then_equal}

-- k bytes are packed where their number is that of their elements
pub packed : (k : ℕ) (s : List ℕ) (n : ℕ) → length s ≡ k → n ≡ be_after 0 (listed s 0 0 k) → Each (λ b. b < 256) (listed s 0 0 k) → Packed k s n
packed k s n h e b =
    let same = elements k s h in
    record { number = rw same at e; long = h; bytes = each_byte s (rw same at b) }

-- one byte more
byte_more : (m n b c : ℕ) → b < 256 → c < 256 → number_order (m * 256 + b) (n * 256 + c) ≡ and_then (number_order m n) (number_order b c)
byte_more m n b c h g =
    let x = m * 256 + b in
    let y = n * 256 + c in
    by_order (λ o. number_order x y ≡ and_then o (number_order b c)) m n
    (λ l. sym (less_is x y (omega arith)))
    (λ e.
    by_order (λ o. number_order x y ≡ o) b c
    (λ l. sym (less_is x y (omega arith)))
    (λ f. sym (equal_is x y (omega arith)))
    (λ l. sym (greater_is x y (omega arith))))
    (λ l. sym (greater_is x y (omega arith)))

after_order : (m n : ℕ) (u v : List ℕ) → length u ≡ length v → Bytes u → Bytes v
    → number_order (be_after m u) (be_after n v) ≡ and_then (number_order m n) (lex u v)
after_order m n [] [] h f g = sym (then_equal (number_order m n))
after_order m n [] (c ∷ v) h f g = absurd (omega arith)
after_order m n (b ∷ u) [] h f g = absurd (omega arith)
after_order m n (b ∷ u) (c ∷ v) h f g =
    let k : length u ≡ length v = omega arith in
    after_order (m * 256 + b) (n * 256 + c) u v k (λ i. f (suc i)) (λ i. g (suc i))
    ∙ (ap (λ (o : Ordering). and_then o (lex u v)) (byte_more m n b c (f 0) (g 0))
    ∙ assoc (number_order m n) (number_order b c) (lex u v))

-- the order of two packed numbers is that of their bytes
pub packed_order : {k : ℕ} {u v : List ℕ} {x y : ℕ} → Packed k u x → Packed k v y → number_order x y ≡ lex u v
packed_order {u = u} {v = v} p q = rw (p.number, q.number) (after_order 0 0 u v (p.long ∙ sym q.long) p.bytes q.bytes)
