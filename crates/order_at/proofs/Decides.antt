-- What decides the order of two records: the first word that differs, or that there is none. Assumes nothing.
use Prim.Native.Nat.{ℕ, zero, suc, ◌+◌, ◌*◌, ◌≤◌, ◌<◌, min}
use mathlib.Core.Path.{◌≡◌, refl, sym, ap, ◌∙◌}
use mathlib.Core.Bool.{Bool, false}
use mathlib.Core.List.{List, [], ◌∷◌}
use native.Mathlib.Nat.{not-suc-le-zero}
use native.Mathlib.Omega.{arith}
use native.Mathlib.Decide.{dec_le}
use lib.Dec.{leb}
use lib.ListN.{length, get_or, drop, length-drop}
use Rattle.laws.proofs.Below.{none, ◌then◌, all_at}
use Rattle.record.specs.Table.{end_of, le}
use Rattle.order.specs.Order.{number_order, lex, key, order_of}
use Rattle.order.specs.declared.Ordering.{Ordering}
use Rattle.order.proofs.Chain.{skip, stop}
use Rattle.order.proofs.Lex.{less_is, apart_is}
use Rattle.order.proofs.Total.{keys_equal}
use Rattle.reading.specs.Reading.{field_by, record_by}
use Rattle.reading.proofs.FieldBytes.{record_fields}
use Rattle.order_at.specs.OrderAt.{order_at}
use Rattle.order_at.specs.Apart.{nth_word, AgreeFrom, read_within, Limit, Differ}
use Rattle.order_at.proofs.Alike.{word_end, word_is, field_alike, field_zero}

-- the order of two lists is that of the first numbers that differ
first_differs : (k : ℕ) (u v : List ℕ) → k < length u → k < length v → ((i : ℕ) → i < k → get_or u i 0 ≡ get_or v i 0)
    → (get_or u k 0 ≡ get_or v k 0 → ⊥) → number_order (get_or u k 0) (get_or v k 0) ≡ lex u v
first_differs k [] v h g same apart = absurd (not-suc-le-zero h)
first_differs k (x ∷ u) [] h g same apart = absurd (not-suc-le-zero g)
first_differs zero (x ∷ u) (y ∷ v) h g same apart = stop (lex u v) apart refl
first_differs (suc k) (x ∷ u) (y ∷ v) h g same apart =
    skip (same 0 (omega arith)) (first_differs k u v (omega arith) (omega arith) (λ i l. same (suc i) (omega arith)) apart)

-- the fields that are words stand in the key in their order, behind a place for size
word_key : (p : ℕ → Bool) (x : List ℕ) (f : ℕ) → f < 9 → 0 < f → get_or (0 ∷ key (record_by p x)) f 0 ≡ le (field_by p x f)
unfolding record_by
word_key p x =
    all_at (λ f. 0 < f → get_or (0 ∷ key (record_by p x)) f 0 ≡ le (field_by p x f)) 9
    (none then (λ h. absurd (not-suc-le-zero h)) then (λ h. refl) then (λ h. refl) then (λ h. refl) then (λ h. refl) then (λ h. refl)
    then (λ h. refl) then (λ h. refl) then (λ h. refl))

-- f is the first word that differs between x, read to m, and y, read to n, and it ends within both
module _ (x y : List ℕ) (m n limit f : ℕ) (d : Differ x y limit 1 f) (small : f < 9)
    (in-x : limit ≤ length x) (in-y : limit ≤ length y) (in-m : limit ≤ m) (in-n : limit ≤ n) where
  ends : 4 * f + 4 ≤ limit
  ends = d.within

  -- before it the keys agree
  before : (i : ℕ) → i < f → get_or (0 ∷ key (read_within m x)) i 0 ≡ get_or (0 ∷ key (read_within n y)) i 0
  before zero h = refl
  before (suc i) h =
      let word : suc i < 9 = omega arith in
      let same =
      field_alike x y m n (4 * f) i d.before (omega (arith, ends)) (omega (arith, ends)) (omega (arith, ends)) (omega (arith, ends)) (omega arith)
      (omega (arith, word_end (suc i) word)) in
      word_key _ x (suc i) word (omega arith) ∙ ap le same ∙ sym (word_key _ y (suc i) word (omega arith))

  -- and it decides
  differ_decides : number_order (nth_word x f) (nth_word y f) ≡ order_of (read_within m x) (read_within n y)
  unfolding order_of
  differ_decides =
      let behind : 0 < f = d.start in
      let p = word_key _ x f small behind ∙ word_is x m f small (omega (arith, ends)) in
      let q = word_key _ y f small behind ∙ word_is y n f small (omega (arith, ends)) in
      rw (sym p, sym q)
      (first_differs f (0 ∷ key (read_within m x)) (0 ∷ key (read_within n y)) (omega arith) (omega arith) before (λ e. d.apart (sym p ∙ e ∙ q)))

-- a record whose size isn't read stands in the same order
abbrev blind : ℕ → ℕ → Bool
blind m zero = false
blind m (suc f) = leb (end_of (suc f)) m

size_unread : (x y : List ℕ) (m : ℕ) → order_of (record_by (blind m) x) (record_by (blind m) y) ≡ order_of (read_within m x) (read_within m y)
unfolding order_of record_by field_by
size_unread x y m = refl

-- the fields behind size are the same in lists that agree as far as both are read
alike_fields : (x y : List ℕ) (m : ℕ) → m ≤ length x → m ≤ length y → AgreeFrom x y 4 m → (f : ℕ) → f < 15 → field_by (blind m) x f ≡ field_by (blind m) y f
unfolding field_by
alike_fields x y m h g same zero l = refl
alike_fields x y m h g same (suc f) l =
    elim (dec_le (end_of (suc f)) m) [
      | yes e ↦ field_alike x y m m m f same h g (omega arith) (omega arith) (omega arith) e
      | no e ↦ field_zero x y m (suc f) l (omega arith)
    ]

-- so they are Equal
alike_equal : (x y : List ℕ) (m : ℕ) → m ≤ length x → m ≤ length y → AgreeFrom x y 4 m → order_of (read_within m x) (read_within m y) ≡ Ordering.Equal
alike_equal x y m h g same =
    sym (size_unread x y m)
    ∙ keys_equal (record_by (blind m) x) (record_by (blind m) y) (ap key (record_fields (blind m) (blind m) x y (alike_fields x y m h g same)))

-- the records at offsets p and q of s, read to m and to n
module _ (s : List ℕ) (p q m n : ℕ) (a : Limit s p m) (b : Limit s q n) where
  -- the first word that differs within both limits decides
  word_decides : (limit f : ℕ) → limit ≡ min m n → f < 9 → Differ (drop p s) (drop q s) limit 1 f
      → number_order (nth_word (drop p s) f) (nth_word (drop q s) f) ≡ order_at s p q
  unfolding order_at
  word_decides limit f e small d =
      rw (a.reads, b.reads)
      (differ_decides (drop p s) (drop q s) m n limit f d small (omega (arith, length-drop p s)) (omega (arith, length-drop q s)) (omega arith) (omega arith))

  module _ {limit f x y : ℕ} (e : limit ≡ min m n) (small : f < 9) (d : Differ (drop p s) (drop q s) limit 1 f)
      (u : x ≡ nth_word (drop p s) f) (v : y ≡ nth_word (drop q s) f) where
    words_decide : number_order x y ≡ order_at s p q
    words_decide = rw (u, v) (word_decides limit f e small d)

    pub less_decides : x < y → Ordering.Less ≡ order_at s p q
    less_decides h = less_is x y h ∙ words_decide

    pub greater_decides : y ≤ x → Ordering.Greater ≡ order_at s p q
    greater_decides h = apart_is x y (λ same. d.apart (sym u ∙ same ∙ v)) h ∙ words_decide

  -- and with one limit, within which no byte behind size differs, the records are Equal
  pub alike_decides : m ≡ n → AgreeFrom (drop p s) (drop q s) 4 m → Ordering.Equal ≡ order_at s p q
  unfolding order_at
  alike_decides e same =
      rw (a.reads, b.reads, ← e)
      (sym (alike_equal (drop p s) (drop q s) m (omega (arith, length-drop p s)) (omega (arith, length-drop q s)) same))
