-- How long an entry is. Assumes nothing.
use Prim.Native.Nat.{ℕ, ◌+◌}
use mathlib.Core.Path.{◌≡◌, ap, ◌∙◌}
use mathlib.Core.List.{◌++◌}
use lib.ListN.{length, length-append}
use Rattle.record.specs.declared.ResTableConfig.{ResTableConfig}
use Rattle.keys.specs.Keys.{key_of}
use Rattle.entries.specs.Entry.{little8, entry_of}

-- an entry has 76 bytes where its key has sixty
pub entry_long : (r : ResTableConfig) (offset count : ℕ) → length (key_of r) ≡ 60 → length (entry_of r offset count) ≡ 76
unfolding entry_of
entry_long r offset count long =
    length-append (key_of r) (little8 offset ++ little8 count) ∙ ap (λ (n : ℕ). n + 16) long
