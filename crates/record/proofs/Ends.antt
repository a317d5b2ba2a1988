-- The table and the ages go together. Assumes nothing.
use mathlib.Core.Path.{◌≡◌, refl}
use lib.ListN.{drop}
use Rattle.record.specs.Ages.{ages}
use Rattle.record.specs.Table.{ends}

-- the ages are the ends of the fields from screen_type on
pub ages_are_ends : ages ≡ drop 3 ends
ages_are_ends = refl
