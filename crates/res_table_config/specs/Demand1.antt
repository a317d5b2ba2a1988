-- Demand 1 of the order of two records given as bytes: when it is refused. Assumes nothing.
use Rattle.std.specs.Prelude.{ℕ, List, [], ◌∷◌}
use Rattle.answers.specs.Demand1.{Exactly}
use Rattle.reading.specs.Demand1.{fewer_than16, fewer_than_size}
use Rattle.res_table_config.specs.Face.{order_told}

-- `res_table_config_order`: 1, 2 or 8 of the first, then 1, 2 or 8 of the second
abbrev pub OrderRefuses : List ℕ → List ℕ → Type 0
OrderRefuses a b = Exactly (fewer_than16 a ∷ fewer_than_size a ∷ fewer_than16 b ∷ fewer_than_size b ∷ []) (order_told a b)
