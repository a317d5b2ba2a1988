-- A field's bytes by its number. Assumes nothing.
use Prim.Native.Nat.{ℕ}
use mathlib.Core.Path.{◌≡◌, sym, ap, ◌∙◌}
use mathlib.Core.List.{List}
use lib.ListN.{take}
use Rattle.record.specs.Table.{width_of}
use Rattle.record.specs.declared.ResTableConfig.{ResTableConfig}
use Rattle.writing.specs.Writing.{bytes_of}

-- an arm gives the bytes of its own field
pub arm : (r : ResTableConfig) (k f : ℕ) (x : List ℕ) → f ≡ k → take (width_of k) x ≡ bytes_of r k → take (width_of f) x ≡ bytes_of r f
arm r k f x e h = ap (λ (g : ℕ). take (width_of g) x) e ∙ h ∙ ap (bytes_of r) (sym e)
