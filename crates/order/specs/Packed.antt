-- An array of bytes as one number, by which arrays are compared. Assumes nothing.
use Rattle.std.specs.Prelude.{ℕ, ◌+◌, ◌*◌, ◌≡◌, List, [], ◌∷◌, length}
use Rattle.record.specs.Table.{Bytes}

-- the number of some bytes, big-endian, behind the number n
abbrev pub be_after : ℕ → List ℕ → ℕ
be_after n [] = n
be_after n (b ∷ bs) = be_after (n * 256 + b) bs

-- n is the number of k bytes, big-endian
pub record Packed (k : ℕ) (s : List ℕ) (n : ℕ) : Type 0 where
  pub number : n ≡ be_after 0 s
  pub long : length s ≡ k
  pub bytes : Bytes s
