-- Keys are ordered byte by byte as their records are, and have sixty bytes. Assumes nothing.
use Prim.Native.Nat.{ℕ, ◌<◌}
use mathlib.Core.Path.{◌≡◌, refl, sym, ap, ◌∙◌}
use mathlib.Core.List.{List, ◌∷◌, ◌++◌}
use native.Mathlib.Omega.{arith}
use lib.ListN.{length, length-append}
use Rattle.record.specs.Shape.{Shaped}
use Rattle.record.specs.declared.ResTableConfig.{ResTableConfig}
use Rattle.record.proofs.Bytes.{each_byte}
use Rattle.order.specs.declared.Ordering.{Ordering}
use Rattle.order.specs.Order.{number_order, and_then, lex, later_key, order_of}
use Rattle.order.specs.Packed.{Packed}
use Rattle.order.proofs.Lex.{joined, agree_order, is_equal}
use Rattle.order.proofs.Packing.{packed_order}
use Rattle.order.proofs.Total.{lex_self, lex_equal, eq_cmp}
use Rattle.keys.specs.Keys.{big4, later_bytes, key_of, Sound, KeysOrder, KeysEqual, OneKey, KeyLong}

-- a word is the number of its four bytes
big_packed : (x : ℕ) → x < 4294967296 → Packed 4 (big4 x) x
big_packed x h =
    record {
      number = omega arith;
      long = refl;
      bytes = each_byte (big4 x) (omega arith, (omega arith, (omega arith, (omega arith, tt))));
    }

-- the lists u and v stand to each other as p and q
record Alike (u v p q : List ℕ) : Type 0 where
  is : lex u v ≡ lex p q

alike : {u v : List ℕ} → Alike u v u v
alike = record { is = refl }

-- a word in front
word_more : {x y : ℕ} {u v p q : List ℕ} → x < 4294967296 → y < 4294967296 → Alike u v p q → Alike (big4 x ++ u) (big4 y ++ v) (x ∷ p) (y ∷ q)
word_more {x} {y} {u} {v} h g e =
    record {
      is =
          joined (big4 x) (big4 y) u v refl
          ∙ ap (λ (o : Ordering). and_then o (lex u v)) (sym (packed_order (big_packed x h) (big_packed y g)))
          ∙ ap (and_then (number_order x y)) e.is;
    }

-- an array in front
array_more : (a b : List ℕ) {n : ℕ} {u v p q : List ℕ} → length a ≡ n → length b ≡ n → Alike u v p q → Alike (a ++ u) (b ++ v) (a ++ p) (b ++ q)
array_more a b {n} {u} {v} {p} {q} h g e =
    let same = h ∙ sym g in record { is = joined a b u v same ∙ ap (and_then (lex a b)) e.is ∙ sym (joined a b p q same) }

later_order : (a b : ResTableConfig) → Sound a → Sound b → Alike (later_bytes a) (later_bytes b) (later_key a) (later_key b)
later_order a b s t =
    let p = s.arrays in
    let q = t.arrays in
    array_more a.locale_script b.locale_script p.script q.script
    (array_more a.locale_variant b.locale_variant p.variant q.variant
    (word_more s.screen_config_2 t.screen_config_2 alike))

-- the order of two keys, byte by byte, is that of the records
pub key_order : (a b : ResTableConfig) → KeysOrder a b
unfolding key_of order_of
key_order a b s t =
    (word_more s.imsi t.imsi
    (word_more s.locale t.locale
    (word_more s.screen_type t.screen_type
    (word_more s.generic_purpose_field t.generic_purpose_field
    (word_more s.screen_size t.screen_size
    (word_more s.version t.version
    (word_more s.screen_config t.screen_config
    (word_more s.screen_size_dp t.screen_size_dp
    (later_order a b s t))))))))).is

-- so keys agree as equality says
pub key_equal : (a b : ResTableConfig) → KeysEqual a b
key_equal a b s t = agree_order (key_of a) (key_of b) ∙ ap is_equal (key_order a b s t) ∙ sym (eq_cmp a b)

-- and Equal records have one key, as no others have
pub one_key : (a b : ResTableConfig) → OneKey a b
one_key a b s t = (
  (λ e. sym (key_order a b s t) ∙ ap (lex (key_of a)) (sym e) ∙ lex_self (key_of a)),
  (λ e. lex_equal (key_of a) (key_of b) (key_order a b s t ∙ e)),
)

-- the lengths of the arrays are enough for that of the key
pub shaped_long : (r : ResTableConfig) → Shaped r → length (key_of r) ≡ 60
unfolding key_of
shaped_long r h = simp (length-append, h.script, h.variant, h.numbering, h.padding)

pub key_long : (r : ResTableConfig) → KeyLong r
key_long r s = shaped_long r s.arrays
