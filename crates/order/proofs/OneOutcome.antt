-- Every call of this crate has one outcome. Assumes nothing.
use mathlib.Core.Path.{◌≡◌}
use mathlib.Core.Bool.{Bool}
use Prim.Native.Nat.{ℕ}
use Rattle.record.specs.declared.ResTableConfig.{ResTableConfig}
use Rattle.answers.proofs.OneOutcome.{one_answer}
use Rattle.order.specs.declared.Ordering.{Ordering}
use Rattle.order.specs.Order.{order_of, equal_of, ordering_tells}

-- of `cmp`, `eq` and `number`: the answer is its definition's value at the input
pub one_order : (a b : ResTableConfig) (r s : Ordering) → r ≡ order_of a b → s ≡ order_of a b → r ≡ s
one_order a b r s p q = one_answer (order_of a) b r s p q

pub one_equal : (a b : ResTableConfig) (r s : Bool) → r ≡ equal_of a b → s ≡ equal_of a b → r ≡ s
one_equal a b r s p q = one_answer (equal_of a) b r s p q

pub one_number : (o : Ordering) (r s : ℕ) → r ≡ ordering_tells o → s ≡ ordering_tells o → r ≡ s
one_number o r s p q = one_answer ordering_tells o r s p q
