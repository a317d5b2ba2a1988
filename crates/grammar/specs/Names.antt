-- 02, K5: the names: parts of rising slots, joined by single dashes. Assumes nothing.
use Rattle.std.specs.Prelude.{ℕ, suc, ◌≤◌, ◌≡◌, List, [], ◌∷◌, ◌++◌, set, replicate}
use Rattle.buffer.specs.Ascii.{ascii}
use Rattle.record.specs.declared.ResTableConfig.{ResTableConfig}
use Rattle.grammar.specs.Rows.{Has}
use Rattle.grammar.specs.Slots as slot
use Rattle.grammar.specs.Made.{made}

-- a part of a name: its slot, its value, its bytes
pub record Part : Type 0 where
  pub slot : ℕ
  pub value : ℕ
  pub bytes : List ℕ
  pub has : Has slot value bytes

-- what may stand where slots from next on are free: a region right behind a language, a part of any other slot behind any earlier one
pub data Follows : ℕ → ℕ → Type 0 where
  region : Follows slot.region slot.region
  later : {next s : ℕ} → (s ≡ slot.region → ⊥) → next ≤ s → Follows next s

-- parts of rising slots, of which the first is next or later
pub data Rising : ℕ → List Part → Type 0 where
  end : {next : ℕ} → Rising next []
  then : {next : ℕ} {p : Part} {ps : List Part} → Follows next p.slot → Rising (suc p.slot) ps → Rising next (p ∷ ps)

-- words joined by dashes
unfoldable pub with_dashes : List (List ℕ) → List ℕ
with_dashes [] = []
with_dashes (w ∷ []) = w
with_dashes (w ∷ v ∷ ws) = w ++ (ascii "-" ++ with_dashes (v ∷ ws))

-- the bytes of parts
abbrev pub part_bytes : List Part → List (List ℕ)
part_bytes [] = []
part_bytes (p ∷ ps) = p.bytes ∷ part_bytes ps

-- the values of the slots, after parts have put theirs
abbrev pub values_after : List ℕ → List Part → List ℕ
values_after vs [] = vs
values_after vs (p ∷ ps) = values_after (set vs p.slot p.value) ps

-- nothing is named: 0 in every slot
abbrev pub unnamed_values : List ℕ
unnamed_values = replicate slot.slots 0

-- s is a name, and stands for the record r
pub record Named (s : List ℕ) (r : ResTableConfig) : Type 0 where
  pub parts : List Part
  pub rising : Rising 0 parts
  pub bytes : s ≡ with_dashes (part_bytes parts)
  pub stands : r ≡ made (values_after unnamed_values parts)
