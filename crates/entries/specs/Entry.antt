-- 02, K9: an entry of an index. Assumes nothing.
use Rattle.std.specs.Prelude.{ℕ, ◌/◌, ◌%◌, List, [], ◌∷◌, ◌++◌}
use Rattle.record.specs.declared.ResTableConfig.{ResTableConfig}
use Rattle.keys.specs.Keys.{key_of}

-- the four low bytes of a number, little-endian
abbrev pub little4 : ℕ → List ℕ
little4 x = x % 256 ∷ x / 256 % 256 ∷ x / 65536 % 256 ∷ x / 16777216 % 256 ∷ []

-- the eight bytes of a number below 2^64, little-endian
abbrev pub little8 : ℕ → List ℕ
little8 x = little4 x ++ little4 (x / 4294967296)

-- the entry of a record: its key, the offset of its first occurrence, and how often it occurs
unfoldable pub entry_of : ResTableConfig → ℕ → ℕ → List ℕ
entry_of r offset count = key_of r ++ (little8 offset ++ little8 count)
