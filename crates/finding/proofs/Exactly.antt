-- When finding a record that is given as bytes is refused, and with which number. Assumes nothing.
use Prim.Native.Nat.{ℕ}
use mathlib.Core.Path.{◌≡◌, refl}
use mathlib.Core.List.{List}
use Rattle.answers.specs.declared.Told.{Told}
use Rattle.answers.specs.Tells.{refusal}
use Rattle.answers.proofs.Exactly.{none_left, row_exactly}
use Rattle.reading.specs.Reading.{plain}
use Rattle.reading.proofs.Exactly.{whole_row}
use Rattle.finding.specs.Finding.{find_told}
use Rattle.finding.specs.Demand1.{FindRefuses}
use Rattle.finding.proofs.Telling.{found_small}

-- `find_in`: 1, 2 or 8
pub find_exactly : (e s : List ℕ) → FindRefuses e s
unfolding find_told
find_exactly e s =
    row_exactly (λ (t : Told). t) refusal _ (λ why. refl) (found_small (λ t. t.number ≡ 0) (λ n h. refl) e (plain s)) (whole_row s none_left)
