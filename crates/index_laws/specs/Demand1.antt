-- Demand 1 of indexing a run: when it is refused. Assumes nothing.
use Rattle.std.specs.Prelude.{ℕ, List, [], ◌∷◌, ltb, length}
use Rattle.answers.specs.declared.Refusal.{Refusal}
use Rattle.answers.specs.Demand1.{Condition}
use Rattle.buffer.specs.Demand1.{shorter_than, Refuses}
use Rattle.index.specs.Index.{firsts, index_of, index_written}

-- 5: the run of s has more than 1,024 distinct records
abbrev pub too_many : List ℕ → Condition
too_many s = record { holds = ltb 1024 (length (firsts s)); why = Refusal.ShortBuffer }

-- `index` and `res_table_config_index`: 5, for more than 1,024 or for the lent room; then nothing lent is changed
abbrev pub IndexRefuses : List ℕ → List ℕ → Type 0
IndexRefuses s old = Refuses (too_many s ∷ shorter_than (length (index_of s)) old ∷ []) old (index_written s old)
