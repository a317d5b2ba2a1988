-- Both records are read and compared. Assumes nothing.
use mathlib.Core.Path.{◌≡◌}
use Rattle.record.specs.declared.ResTableConfig.{ResTableConfig}
use Rattle.order.specs.declared.Ordering.{Ordering}
use Rattle.order.specs.Order.{order_of}
use Rattle.order_at.specs.OrderAt.{order_at}
use Rattle.order_at.proofs.parsed_order.Goals as goal

same : {a b x y : ResTableConfig} {o : Ordering} → a ≡ x → b ≡ y → o ≡ order_of a b → o ≡ order_of x y
same e f g = cc

pub returns : goal.returns
unfolding order_at
returns c = same c.record_at-first.ensures c.record_at-second.ensures c.cmp.ensures
