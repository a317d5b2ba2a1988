-- Any two outcomes that a contract of this crate allows for the same input are one. Assumes nothing.
use Prim.Native.Nat.{ℕ}
use mathlib.Core.Path.{◌≡◌}
use mathlib.Core.List.{List}
use Rattle.answers.proofs.OneOutcome.{one_answer}
use Rattle.record.specs.declared.ResTableConfig.{ResTableConfig}
use Rattle.order.specs.declared.Ordering.{Ordering}
use Rattle.order_at.specs.OrderAt.{plain_at, order_at}

-- of `record_at` and `order_at`: the answer is its definition's value at the input
pub one_record : (s : List ℕ) (p : ℕ) (r t : ResTableConfig) → r ≡ plain_at s p → t ≡ plain_at s p → r ≡ t
one_record s p r t e f = one_answer (plain_at s) p r t e f

pub one_order : (s : List ℕ) (p q : ℕ) (r t : Ordering) → r ≡ order_at s p q → t ≡ order_at s p q → r ≡ t
one_order s p q r t e f = one_answer (order_at s p) q r t e f
