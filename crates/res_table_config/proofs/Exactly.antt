-- When the order of two records given as bytes is refused, and with which number. Assumes nothing.
use Prim.Native.Nat.{ℕ}
use mathlib.Core.List.{List}
use Rattle.answers.proofs.Exactly.{none_left, told_exactly}
use Rattle.reading.proofs.Exactly.{whole_row}
use Rattle.res_table_config.specs.Demand1.{OrderRefuses}

-- `res_table_config_order`: the first one's refusal comes before any of the second's
pub order_exactly : (a b : List ℕ) → OrderRefuses a b
order_exactly a b = told_exactly (whole_row a (whole_row b none_left))
