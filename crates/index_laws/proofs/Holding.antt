-- What every index holds, and that it fixes the index. Assumes nothing.
use Prim.Native.Nat.{ℕ, ◌<◌}
use mathlib.Core.Path.{◌≡◌, sym, ap, ◌∙◌}
use mathlib.Core.List.{List}
use native.Mathlib.Omega.{arith}
use lib.ListN.{length}
use Rattle.record.specs.Table.{Bytes}
use Rattle.order.specs.declared.Ordering.{Ordering}
use Rattle.order.specs.Order.{lex}
use Rattle.keys.specs.Keys.{key_of}
use Rattle.keys.proofs.KeyOrder.{key_order}
use Rattle.order_at.specs.OrderAt.{plain_at, order_at}
use Rattle.rising.specs.Rising.{Rises}
use Rattle.rising.proofs.Places.{rising_at}
use Rattle.rising.proofs.Ranked.{toward_place}
use Rattle.rising.proofs.Held.{held_first, held_own}
use Rattle.rising.proofs.Sorted.{rising_distinct, found_distinct, rising_fixes}
use Rattle.rising.proofs.Sums.{counts_add}
use Rattle.runs.specs.Runs.{offsets_of}
use Rattle.index.specs.Index.{firsts, index_of}
use Rattle.index.proofs.Words.{ranks}
use Rattle.index_laws.specs.Claims.{EveryIndex, IndexFixed, key_in, offset_in}
use Rattle.index_laws.proofs.Keys.{toward_record, sound_at, entry_at, key_at}

-- the offsets of an index rise
pub rises : (s : List ℕ) → Rises (order_at s) (firsts s)
rises s = rising_distinct (order_at s) (ranks s) (offsets_of s 0)

keys_rise : (s : List ℕ) → Bytes s → (i j : ℕ) → i < j → j < length (firsts s) → lex (key_in (index_of s) i) (key_in (index_of s) j) ≡ Ordering.Less
unfolding order_at
keys_rise s bytes i j h k =
    let a = key_at s (firsts s) i (omega arith) in
    let b = key_at s (firsts s) j k in
    let p = offset_in s i in
    let q = offset_in s j in
    ap (λ (l : List ℕ). lex l (key_in (index_of s) j)) a
    ∙ ap (lex (key_of (plain_at s p))) b
    ∙ key_order (plain_at s p) (plain_at s q) (sound_at s bytes p) (sound_at s bytes q)
    ∙ rising_at (order_at s) i j (firsts s) (rises s) h k

pub every_index : EveryIndex
every_index s bytes =
    record {
      keys = keys_rise s bytes;
      found = λ x d.
          sym (held_first (order_at s) (toward_record s x) (λ (q : ℕ). q) (firsts s) d (rises s))
          ∙ found_distinct (order_at s) (ranks s) (offsets_of s 0) (toward_record s x) (λ q. q) d;
      entry = entry_at s (firsts s);
      first = λ i d h.
          sym (found_distinct (order_at s) (ranks s) (offsets_of s 0) (toward_place (order_at s) (ranks s) (offset_in s i)) (λ q. q) d)
          ∙ held_own (order_at s) (ranks s) (firsts s) i d (rises s) h;
      adds = counts_add (order_at s) (ranks s) (offsets_of s 0);
    }

pub index_fixed : IndexFixed
index_fixed s qs r same = rising_fixes (order_at s) (ranks s) qs (offsets_of s 0) r same
