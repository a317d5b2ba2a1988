-- The records that stand at offsets of a run, and their order. Assumes nothing.
use Rattle.std.specs.Prelude.{ℕ, List, drop}
use Rattle.record.specs.declared.ResTableConfig.{ResTableConfig}
use Rattle.order.specs.declared.Ordering.{Ordering}
use Rattle.order.specs.Order.{order_of}
use Rattle.reading.specs.Reading.{parse_of}

-- the record at offset p of s, plainly parsed; where no whole one stands, the record that holds nothing
unfoldable pub plain_at : List ℕ → ℕ → ResTableConfig
plain_at s p = (parse_of (drop p s)).gives

-- how the record at offset p of s stands to that at offset q
unfoldable pub order_at : List ℕ → ℕ → ℕ → Ordering
order_at s p q = order_of (plain_at s p) (plain_at s q)
