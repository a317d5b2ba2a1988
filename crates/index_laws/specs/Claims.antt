-- 02, K9, as statements about the index of a run; the comments are its words. Assumes nothing.
use Rattle.std.specs.Prelude.{ℕ, suc, ◌*◌, ◌<◌, ◌≡◌, true, false, List, ◌++◌, map, length, get_or, set, Some, None}
use Rattle.record.specs.Table.{Bytes, part}
use Rattle.record.specs.declared.ResTableConfig.{ResTableConfig}
use Rattle.order.specs.declared.Ordering.{Ordering}
use Rattle.order.specs.Order.{lex, order_of}
use Rattle.reading.specs.Reading.{plain, taken}
use Rattle.keys.specs.Keys.{Sound}
use Rattle.order_at.specs.OrderAt.{plain_at, order_at}
use Rattle.rising.specs.Rising.{first_equal, some_equal, sum, Rises}
use Rattle.entries.specs.Entry.{entry_of}
use Rattle.runs.specs.Runs.{offsets_of, run_of, stop_of}
use Rattle.index.specs.Index.{firsts, count_in, index_of}
use Rattle.finding.specs.Finding.{find_of}

-- the key of the entry at place i of e
abbrev pub key_in : List ℕ → ℕ → List ℕ
key_in e i = part e (76 * i) 60

-- the offset of the entry at place i of the index of s
abbrev pub offset_in : List ℕ → ℕ → ℕ
offset_in s i = get_or (firsts s) i 0

-- what the index of the run of s holds
pub record OfIndex (s : List ℕ) : Type 0 where
  -- Keys are rising and distinct.
  pub keys : (i j : ℕ) → i < j → j < length (firsts s) → lex (key_in (index_of s) i) (key_in (index_of s) j) ≡ Ordering.Less
  -- Its entries are the run's distinct records: whatever record is looked for, the first Equal one is that of the run;
  pub found : (x : ResTableConfig) (d : ℕ) → first_equal (λ q. order_of (plain_at s q) x) (firsts s) d ≡ first_equal (λ p. order_of (plain_at s p) x) (offsets_of s 0) d
  -- an entry for each: its key, its offset and its count,
  pub entry : (i : ℕ) → i < length (firsts s) → part (index_of s) (76 * i) 76 ≡ entry_of (plain_at s (offset_in s i)) (offset_in s i) (count_in s (offset_in s i))
  -- its offset the first at which an Equal one stands.
  pub first : (i d : ℕ) → i < length (firsts s) → first_equal (λ p. order_at s p (offset_in s i)) (offsets_of s 0) d ≡ offset_in s i
  -- The counts add up to the run's record count.
  pub adds : sum (map (count_in s) (firsts s)) ≡ (run_of s 0).records

-- every index holds that
abbrev pub EveryIndex : Type 0
EveryIndex = (s : List ℕ) → Bytes s → OfIndex s

-- this fixes it: no other offsets rise among which whatever is looked for is found as in the run
abbrev pub IndexFixed : Type 0
IndexFixed =
    (s qs : List ℕ) → Rises (order_at s) qs
    → ((x d : ℕ) → first_equal (λ q. order_at s q x) qs d ≡ first_equal (λ p. order_at s p x) (offsets_of s 0) d)
    → qs ≡ firsts s

-- what becomes of the index of s with one more record, that of t, behind its run
pub record OneMore (s t : List ℕ) : Type 0 where
  -- the same offsets and keys,
  pub offsets : firsts (s ++ t) ≡ firsts s
  pub keys : (i : ℕ) → i < length (firsts s) → key_in (index_of (s ++ t)) i ≡ key_in (index_of s) i
  -- one count higher by one,
  pub place : ℕ
  pub within : place < length (firsts s)
  pub counts : map (count_in (s ++ t)) (firsts (s ++ t)) ≡ set (map (count_in s) (firsts s)) place (suc (count_in s (offset_in s place)))
  -- and no new room
  pub room : length (index_of (s ++ t)) ≡ length (index_of s)

-- a run that ends exactly, and a record behind it that is already there: an Equal one is in the run
abbrev pub OneMoreThere : Type 0
OneMoreThere =
    (s t : List ℕ) → stop_of s 0 ≡ length s → taken t ≡ length t
    → some_equal (λ p. order_of (plain_at s p) (plain t)) (offsets_of s 0) ≡ true
    → OneMore s t

-- the entry of a record that is found in the index of s: the record at its offset is Equal
pub record FoundIn (s : List ℕ) (x : ResTableConfig) : Type 0 where
  pub place : ℕ
  pub within : place < length (firsts s)
  pub equal : order_of (plain_at s (offset_in s place)) x ≡ Ordering.Equal
  pub is : find_of (index_of s) x ≡ Some place

-- finding a record in the index of s gives its entry where an Equal one is in the run, and nothing where none is
pub record FindsInRun (s : List ℕ) (x : ResTableConfig) : Type 0 where
  pub some : some_equal (λ p. order_of (plain_at s p) x) (offsets_of s 0) ≡ true → FoundIn s x
  pub none : some_equal (λ p. order_of (plain_at s p) x) (offsets_of s 0) ≡ false → find_of (index_of s) x ≡ None

-- exactly so in every index, of every record of a program
abbrev pub FindsExactly : Type 0
FindsExactly = (s : List ℕ) (x : ResTableConfig) → Bytes s → Sound x → FindsInRun s x
