-- 02, K5: reading a directory name part by part, up to the first part that can't stand there. Assumes nothing.
use Rattle.std.specs.Prelude.{ℕ, suc, ◌+◌, List, [], ◌∷◌, Bool, cond, ◌&&◌, not, leb, eqb, length, set}
use Rattle.grammar.specs.Slots as slot
use Rattle.grammar.specs.Names.{unnamed_values}
use Rattle.parts.specs.declared.Found.{Found}
use Rattle.parts.specs.Recognised.{recognised}

-- a byte in front of the first part
abbrev pub in_first : ℕ → List (List ℕ) → List (List ℕ)
in_first b [] = (b ∷ []) ∷ []
in_first b (p ∷ ps) = (b ∷ p) ∷ ps

-- the parts of a name: what stands between its dashes
unfoldable pub parts_of : List ℕ → List (List ℕ)
parts_of [] = [] ∷ []
parts_of (b ∷ s) = cond (eqb b 45) ([] ∷ parts_of s) (in_first b (parts_of s))

-- what was read: the next free slot and the values so far, or the offset of the part at which the name is refused
pub data Read : Type 0 where
  so_far : ℕ → List ℕ → Read
  refused : ℕ → Read

-- whether what was found may stand where slots from next on are free: a region right behind a language alone
unfoldable pub may : ℕ → Found → Bool
may next f = not (eqb f.value 0) && cond (eqb f.slot slot.region) (eqb next slot.region) (leb next f.slot)

-- a part at an offset: its value is put, or the name is refused there
unfoldable pub step : Read → ℕ → List ℕ → Read
step (Read.refused o) at p = Read.refused o
step (Read.so_far next vs) at p =
    cond (may next (recognised p)) (Read.so_far (suc (recognised p).slot) (set vs (recognised p).slot (recognised p).value)) (Read.refused at)

-- parts in a row, of which the first stands at an offset
unfoldable pub read_parts : Read → ℕ → List (List ℕ) → Read
read_parts r at [] = r
read_parts r at (p ∷ ps) = read_parts (step r at p) (at + length p + 1) ps

-- nothing read yet
abbrev pub start : Read
start = Read.so_far 0 unnamed_values

-- a name read: the empty one names nothing; in one that begins with a dash the first part ends the empty name, so the second is refused
unfoldable pub read_name : List ℕ → Read
read_name [] = start
read_name (b ∷ s) = cond (eqb b 45) (Read.refused 1) (read_parts start 0 (parts_of (b ∷ s)))
