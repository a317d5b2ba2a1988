-- Where two lists agree: in the bytes of words that agree, in a part, in the fields of a record. Assumes nothing.
use Prim.Native.Nat.{ℕ, suc, ◌+◌, ◌*◌, ◌-◌, ◌≤◌, ◌<◌}
use mathlib.Core.Path.{◌≡◌, refl, sym, ap, ◌∙◌}
use mathlib.Core.List.{List, [], ◌∷◌}
use native.Mathlib.Omega.{arith}
use native.Mathlib.Decide.{dec_lt}
use lib.Dec.{eqb, leb}
use lib.ListN.{length, get_or, take, drop, length-take}
use lib.Seq.{ext_get_or, get_or-take, get_or-drop}
use borrow.Author.Tests.{eqb-true, leb-true}
use Rattle.laws.proofs.Below.{in_row}
use Rattle.laws.proofs.Lists.{part_at, part_long}
use Rattle.record.specs.Table.{Bytes, start_of, end_of, width_of, part, le}
use Rattle.record.proofs.Bytes.{by_offset}
use Rattle.reading.specs.Reading.{field_by}
use Rattle.reading.proofs.FieldBytes.{read_is, zero_is}
use Rattle.reading.proofs.Limits.{start_end}
use Rattle.order_at.specs.Apart.{nth_word, AgreeFrom}

-- bytes with one number, little-endian, are the same
le_one : (u v : List ℕ) → length u ≡ length v → Bytes u → Bytes v → le u ≡ le v → u ≡ v
le_one [] [] h f g e = refl
le_one [] (c ∷ v) h f g e = absurd (omega arith)
le_one (b ∷ u) [] h f g e = absurd (omega arith)
le_one (b ∷ u) (c ∷ v) h f g e =
    let small : b < 256 = f 0 in
    let other : c < 256 = g 0 in
    let l : length u ≡ length v = omega arith in
    let k : le u ≡ le v = omega arith in
    let m : b ≡ c = omega arith in
    let t = le_one u v l (λ i. f (suc i)) (λ i. g (suc i)) k in
    cc

-- what stands in a list of bytes from an offset on, and a part of it, are bytes
pub drop_bytes : (p : ℕ) (s : List ℕ) → Bytes s → Bytes (drop p s)
drop_bytes p s b i = rw (get_or-drop p s i 0) (b (p + i))

take_bytes : (n : ℕ) (s : List ℕ) → Bytes s → Bytes (take n s)
take_bytes n s b =
    by_offset (take n s) (λ i h. let g : i < n = omega (arith, length-take n s) in rw (get_or-take n s i 0 g) (b i))

-- where words agree, their bytes do
pub word_alike : (x y : List ℕ) (f : ℕ) → Bytes x → Bytes y → 4 * f + 4 ≤ length x → 4 * f + 4 ≤ length y → nth_word x f ≡ nth_word y f
    → AgreeFrom x y (4 * f) (4 * f + 4)
word_alike x y f b c h g e k from to =
    let a = 4 * f in
    let i : k - a < 4 = omega arith in
    let same =
    le_one (part x a 4) (part y a 4) (part_long x a 4 h ∙ sym (part_long y a 4 g)) (take_bytes 4 (drop a x) (drop_bytes a x b))
    (take_bytes 4 (drop a y) (drop_bytes a y c)) e in
    sym (part_at x a 4 k from i) ∙ ap (λ (w : List ℕ). get_or w (k - a) 0) same ∙ part_at y a 4 k from i

-- first to b, and then from b on
pub alike_more : (x y : List ℕ) (a b e : ℕ) → AgreeFrom x y a b → AgreeFrom x y b e → AgreeFrom x y a e
alike_more x y a b e first more k from to =
    elim (dec_lt k b) [
      | yes h ↦ first k from h
      | no h ↦ more k (omega arith) to
    ]

-- a part of what agrees agrees
part_alike : (x y : List ℕ) (a e i n : ℕ) → AgreeFrom x y a e → e ≤ length x → e ≤ length y → a ≤ i → i + n ≤ e → part x i n ≡ part y i n
part_alike x y a e i n same h g from to =
    let u : i + n ≤ length x = omega arith in
    let v : i + n ≤ length y = omega arith in
    let long = part_long x i n u in
    ext_get_or 0 (part x i n) (part y i n) (long ∙ sym (part_long y i n v)) (λ j below.
    let w : j < n = omega arith in
    get_or-take n (drop i x) j 0 w
    ∙ get_or-drop i x j 0
    ∙ same (i + j) (omega arith) (omega arith)
    ∙ sym (get_or-take n (drop i y) j 0 w ∙ get_or-drop i y j 0))

-- the fields from size to screen_size_dp are words, one after the other
word_start : (f : ℕ) → f < 9 → start_of f ≡ 4 * f
word_start f h = eqb-true (start_of f) (4 * f) (in_row 9 (λ g. eqb (start_of g) (4 * g)) tt f h)

pub word_end : (f : ℕ) → f < 9 → end_of f ≡ 4 * f + 4
word_end f h = eqb-true (end_of f) (4 * f + 4) (in_row 9 (λ g. eqb (end_of g) (4 * g + 4)) tt f h)

-- such a field, where it is read, is its word
pub word_is : (x : List ℕ) (l f : ℕ) → f < 9 → 4 * f + 4 ≤ l → le (field_by (λ g. leb (end_of g) l) x f) ≡ nth_word x f
word_is x l f h g =
    let a = word_start f h in
    let e = word_end f h in
    ap le (read_is x l f 4 (omega arith) (omega arith) ∙ ap (λ (i : ℕ). part x i 4) a)

-- the fields behind size start at offset 4 or later
behind_size : (f : ℕ) → f < 14 → 4 ≤ start_of (suc f)
behind_size f h = leb-true 4 (start_of (suc f)) (in_row 14 (λ g. leb 4 (start_of (suc g))) tt f h)

-- a field behind size is the same in two lists that agree from offset 4 as far as both are read, where it ends within that
pub field_alike : (x y : List ℕ) (l m e f : ℕ) → AgreeFrom x y 4 e → e ≤ length x → e ≤ length y → e ≤ l → e ≤ m → f < 14 → end_of (suc f) ≤ e
    → field_by (λ g. leb (end_of g) l) x (suc f) ≡ field_by (λ g. leb (end_of g) m) y (suc f)
field_alike x y l m e f same h g u v below ends =
    let k = suc f in
    let wide : end_of k ≡ start_of k + width_of k = omega (arith, start_end k (omega arith)) in
    read_is x l k (width_of k) wide (omega arith)
    ∙ part_alike x y 4 e (start_of k) (width_of k) same h g (behind_size f below) (omega arith)
    ∙ sym (read_is y m k (width_of k) wide (omega arith))

-- and where it ends past the limit of both, it is zero in both
pub field_zero : (x y : List ℕ) (l f : ℕ) → f < 15 → l < end_of f
    → field_by (λ g. leb (end_of g) l) x f ≡ field_by (λ g. leb (end_of g) l) y f
field_zero x y l f below past =
    let wide : end_of f ≡ start_of f + width_of f = omega (arith, start_end f below) in
    zero_is x l f (width_of f) wide past ∙ sym (zero_is y l f (width_of f) wide past)
