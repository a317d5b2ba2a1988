-- A number read as a Density and turned back is the same number. Assumes nothing.
use Prim.Native.Nat.{ℕ}
use mathlib.Core.Path.{◌≡◌, refl}
use Rattle.kinds.specs.declared.screen.Density.{Density}
use Rattle.kinds.specs.Screen.{densities, density_of, density_number}
use Rattle.kinds.proofs.Pick.{pick_each}

-- every number comes back, so each of the 65,536 that a record can hold
pub density_back : (n : ℕ) → density_number (density_of n) ≡ n
density_back n =
    pick_each (λ k d. density_number d ≡ k) densities (Density.Unknown n) n
    (refl, (refl, (refl, (refl, (refl, (refl, (refl, (refl, (refl, (refl, tt)))))))))) refl
