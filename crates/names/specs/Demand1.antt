-- Demand 1 of the calls on a directory name: when they are refused. Assumes nothing.
use Rattle.std.specs.Prelude.{ℕ, true, false, List, [], ◌∷◌}
use Rattle.answers.specs.declared.Refusal.{Refusal}
use Rattle.answers.specs.Demand1.{Condition, Exactly}
use Rattle.buffer.specs.Demand1.{shorter_than, Refuses}
use Rattle.names.specs.Reading.{Read, read_name}
use Rattle.names.specs.Named.{name_of, name_written}

-- 11 comes where reading stopped at a part, with that part's offset
abbrev pub stopped_at : Read → Condition
stopped_at (Read.so_far next vs) = record { holds = false; why = Refusal.NotAName 0 }
stopped_at (Read.refused at) = record { holds = true; why = Refusal.NotAName at }

-- 11: the grammar doesn't have the name, which Claims.antt says of every offset
abbrev pub not_a_name : List ℕ → Condition
not_a_name s = stopped_at (read_name s)

-- `read_name`: 11
abbrev pub NameRefuses : List ℕ → Type 0
NameRefuses s = Exactly (not_a_name s ∷ []) (name_of s).tells

-- `write_name`: 11, 5
abbrev pub NameWriteRefuses : List ℕ → List ℕ → Type 0
NameWriteRefuses s old = Refuses (not_a_name s ∷ shorter_than 64 old ∷ []) old (name_written s old)
