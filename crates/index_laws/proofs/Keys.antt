-- The keys of an index: where they stand, and that they are ordered as the records are. Assumes nothing.
use Prim.Native.Nat.{ℕ, zero, suc, ◌+◌, ◌*◌, ◌<◌}
use mathlib.Core.Path.{◌≡◌, sym, ap, ◌∙◌}
use mathlib.Core.List.{List, [], ◌∷◌, ◌++◌}
use native.Mathlib.Omega.{arith}
use native.Mathlib.Nat.{not-suc-le-zero}
use lib.Dec.{lit≤}
use lib.ListN.{length, get_or, take, drop}
use lib.Seq.{take_at, take-take, drop-append-add, get_or-drop}
use Rattle.record.specs.Table.{Bytes, part}
use Rattle.record.specs.declared.ResTableConfig.{ResTableConfig}
use Rattle.order.specs.Order.{order_of}
use Rattle.order.specs.Total.{flip}
use Rattle.order.proofs.Total.{order_flip, transitive}
use Rattle.keys.specs.Keys.{key_of, Sound}
use Rattle.order_at.specs.OrderAt.{plain_at, order_at}
use Rattle.rising.proofs.Ranked.{Toward}
use Rattle.entries.specs.Entry.{little8, entry_of}
use Rattle.entries.proofs.Long.{entry_long}
use Rattle.index.specs.Index.{count_in, entries_at}
use Rattle.index.proofs.Sound.{key_at_long}
use Rattle.finding.proofs.ReadSound.{parse_sound}

-- records stand so to one record
pub toward_record : (s : List ℕ) (x : ResTableConfig) → Toward (order_at s) (λ q. order_of (plain_at s q) x)
unfolding order_at
toward_record s x =
    let r : ℕ → ResTableConfig = plain_at s in
    record {
      same = λ p q e. transitive.equal (r p) (r q) x e;
      meet = λ p q e f. transitive.equal (r p) x (r q) e ∙ order_flip (r q) x ∙ ap flip f;
      falls = λ p q e f. transitive.less (r p) (r q) x e f;
      past = λ p q e f. order_flip x (r q) ∙ ap flip (sym (transitive.equal (r p) x (r q) f) ∙ e);
      stays = λ p q e f. order_flip x (r q) ∙ ap flip (transitive.less x (r p) (r q) (order_flip (r p) x ∙ ap flip f) e);
    }

-- the record at any offset of some bytes is as records of a program are
pub sound_at : (s : List ℕ) → Bytes s → (q : ℕ) → Sound (plain_at s q)
unfolding plain_at
sound_at s bytes q = parse_sound (drop q s) (λ i. rw (get_or-drop q s i 0) (bytes (q + i)))

-- the entry at a place
pub entry_at : (s qs : List ℕ) (i : ℕ) → i < length qs
    → part (entries_at s qs) (76 * i) 76 ≡ entry_of (plain_at s (get_or qs i 0)) (get_or qs i 0) (count_in s (get_or qs i 0))
unfolding entries_at
entry_at s [] i h = absurd (not-suc-le-zero h)
entry_at s (q ∷ qs) zero h = take_at (entry_of (plain_at s q) q (count_in s q)) (entries_at s qs) 76 (entry_long (plain_at s q) q (count_in s q) (key_at_long s q))
entry_at s (q ∷ qs) (suc i) h =
    let e = entry_of (plain_at s q) q (count_in s q) in
    let a : 76 * suc i ≡ length e + 76 * i = omega (arith, entry_long (plain_at s q) q (count_in s q) (key_at_long s q)) in
    ap (λ (n : ℕ). take 76 (drop n (e ++ entries_at s qs))) a
    ∙ ap (take 76) (drop-append-add e (entries_at s qs) (76 * i))
    ∙ entry_at s qs i (omega arith)

-- its key
pub key_at : (s qs : List ℕ) (i : ℕ) → i < length qs → part (entries_at s qs) (76 * i) 60 ≡ key_of (plain_at s (get_or qs i 0))
unfolding entry_of
key_at s qs i h =
    let q = get_or qs i 0 in
    sym (take-take 60 76 (drop (76 * i) (entries_at s qs)) (lit≤ tt))
    ∙ ap (take 60) (entry_at s qs i h)
    ∙ take_at (key_of (plain_at s q)) (little8 q ++ little8 (count_in s q)) 60 (key_at_long s q)
