-- Any two outcomes that a contract of this crate allows for the same input are one: of `front`, `two`, `four` and `eight` by `one_answer` of
-- answers. Assumes nothing.
use Prim.Native.Nat.{ℕ}
use mathlib.Core.Path.{◌≡◌}
use mathlib.Core.List.{List}
use Rattle.buffer.specs.Put.{Put}
use Rattle.buffer.proofs.OneOutcome.{one_put}

-- of `line`, `put_two`, `put_four` and `put_eight`, which put a definition's bytes w: where they stopped and what they left
pub one_putting : {old : List ℕ} {at : ℕ} {w : List ℕ} {x y : List ℕ} {r s : ℕ} → Put old at w x r → Put old at w y s → (r ≡ s) × (x ≡ y)
one_putting p q = one_put p q
