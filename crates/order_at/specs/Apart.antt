-- What the comparison of two records by their offsets goes by: how far each is read, and the first word in which they differ.
-- Assumes nothing.
use Rattle.std.specs.Prelude.{ℕ, ◌+◌, ◌*◌, ◌-◌, ◌%◌, ◌≤◌, ◌<◌, ◌≡◌, List, leb, length, get_or, drop}
use Rattle.record.specs.declared.ResTableConfig.{ResTableConfig}
use Rattle.record.specs.Table.{end_of, part, le}
use Rattle.reading.specs.Reading.{record_by}
use Rattle.order_at.specs.OrderAt.{plain_at}

-- word f of some bytes, words counted from 0: the fields from size to screen_size_dp are words 0 to 8
abbrev pub nth_word : List ℕ → ℕ → ℕ
nth_word x f = le (part x (4 * f) 4)

-- two lists agree from offset a to offset e, e not included
abbrev pub AgreeFrom : List ℕ → List ℕ → ℕ → ℕ → Type 0
AgreeFrom x y a e = (k : ℕ) → a ≤ k → k < e → get_or x k 0 ≡ get_or y k 0

-- the record of the fields of x that end within a limit
abbrev pub read_within : ℕ → List ℕ → ResTableConfig
read_within limit x = record_by (λ f. leb (end_of f) limit) x

-- of the record at offset p of s those fields are read that end within limit
pub record Limit (s : List ℕ) (p limit : ℕ) : Type 0 where
  pub most : limit ≤ 64
  pub there : limit ≤ length s - p
  pub reads : plain_at s p ≡ read_within limit (drop p s)

-- f is the first word from `from` on in which x and y differ, and it ends within limit
pub record Differ (x y : List ℕ) (limit from f : ℕ) : Type 0 where
  pub start : from ≤ f
  pub within : 4 * f + 4 ≤ limit
  pub before : AgreeFrom x y (4 * from) (4 * f)
  pub apart : nth_word x f ≡ nth_word y f → ⊥

-- r is the first word from `from` on and before `to` in which x and y differ within limit; where there is none, it is `to`, and x and y
-- agree in whole words up to limit
pub record FirstApart (x y : List ℕ) (limit from to r : ℕ) : Type 0 where
  pub found : r < to → Differ x y limit from r
  pub none : to ≤ r → (e : ℕ) → e % 4 ≡ 0 → e ≤ limit → e ≤ 4 * to → AgreeFrom x y (4 * from) e
