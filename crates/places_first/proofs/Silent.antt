-- Places of which none is said. Assumes nothing.
use Prim.Native.Nat.{ℕ}
use mathlib.Core.Path.{◌≡◌, refl}
use mathlib.Core.List.{List}
use Rattle.places.specs.Say.{Place, say_all, Says}

-- they leave the buffer and the offset as they were
pub says_none : {o : List ℕ} {at : ℕ} (ps : List Place) → ((t : List ℕ) → say_all t ps ≡ t) → Says o at ps o at
says_none ps h = record { keeps = refl; goes = λ base t p. rw (h t) p }
