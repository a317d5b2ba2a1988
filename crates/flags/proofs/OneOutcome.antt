-- Any two outcomes that the contract of this crate allows for the same input are one. Assumes nothing.
use Prim.Native.Nat.{ℕ}
use mathlib.Core.Path.{◌≡◌, sym, ap, ◌∙◌}
use lib.ListN.{get_or}
use Rattle.flags.specs.declared.ResTableConfigFlags.{ResTableConfigFlags}
use Rattle.flags.specs.Flags.{flags}

-- of `nth`: the number is all that the answer holds
pub one_flag : (row : ℕ) (r s : ResTableConfigFlags) → r.0 ≡ get_or flags row 0 → s.0 ≡ get_or flags row 0 → r ≡ s
one_flag row r s e f = ap (λ (n : ℕ). record { 0 = n }) (e ∙ sym f)
