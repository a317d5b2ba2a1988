-- Demand 1 of finding a record that is given as bytes: when it is refused. Assumes nothing.
use Rattle.std.specs.Prelude.{ℕ, List, [], ◌∷◌}
use Rattle.answers.specs.Demand1.{Exactly}
use Rattle.reading.specs.Demand1.{fewer_than16, fewer_than_size}
use Rattle.finding.specs.Finding.{find_told}

-- `find_in`: 1, 2 or 8, whatever the entries are
abbrev pub FindRefuses : List ℕ → List ℕ → Type 0
FindRefuses e s = Exactly (fewer_than16 s ∷ fewer_than_size s ∷ []) (find_told e s)
