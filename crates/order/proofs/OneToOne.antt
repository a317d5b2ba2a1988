-- What an order tells fixes the order. Assumes nothing.
use Prim.Native.Nat.{ℕ, zero, suc}
use mathlib.Core.Path.{◌≡◌, refl}
use Rattle.answers.proofs.OneToOne.{one_to_one}
use Rattle.order.specs.Order.{ordering_tells}
use Rattle.order.specs.declared.Ordering.{Ordering}

-- two orders with one number are one
pub tells_one : (o p : Ordering) → ordering_tells o ≡ ordering_tells p → o ≡ p
tells_one = one_to_one ordering_tells back there
  where
    back : ℕ → Ordering
    back zero = Ordering.Less
    back (suc zero) = Ordering.Equal
    back (suc (suc n)) = Ordering.Greater

    there : (q : Ordering) → back (ordering_tells q) ≡ q
    there Ordering.Less = refl
    there Ordering.Equal = refl
    there Ordering.Greater = refl
