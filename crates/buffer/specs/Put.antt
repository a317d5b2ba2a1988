-- What the machinery of writing does: it puts words into a buffer as far as the buffer goes. Assumes nothing.
use Rattle.std.specs.Prelude.{ℕ, suc, ◌≡◌, List, [], ◌∷◌, cond, ltb, length, set}

-- the buffer with the bytes of w in it, one after the other from offset at on; past the buffer's end `set` changes nothing
unfoldable pub put_at : List ℕ → ℕ → List ℕ → List ℕ
put_at buffer at [] = buffer
put_at buffer at (b ∷ w) = put_at (set buffer at b) (suc at) w

-- where a writer of w stops that starts at offset at of a buffer of n bytes: behind w, or where there is no room
unfoldable pub reach : ℕ → ℕ → List ℕ → ℕ
reach n at [] = at
reach n at (b ∷ w) = cond (ltb at n) (reach n (suc at) w) at

-- the outcome of a writer that found the buffer old and put w from offset at on: it answers r and leaves new
pub record Put (old : List ℕ) (at : ℕ) (w : List ℕ) (new : List ℕ) (r : ℕ) : Type 0 where
  pub ends : r ≡ reach (length old) at w
  pub holds : new ≡ put_at old at w
