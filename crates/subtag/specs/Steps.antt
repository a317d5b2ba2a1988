-- What the crate's private contracts cite of one front. No public contract rests on it. Assumes nothing.
use Rattle.std.specs.Prelude.{ℕ, ◌≡◌, List, length}
use Rattle.buffer.specs.Put.{Put}
use Rattle.subtag.specs.Utf8.{front_of}
use Rattle.subtag.specs.Replacements.{ill_formed}
use Rattle.subtag.specs.Subtag.{piece_of, front_size}

-- a writer that found the buffer old has put at offset at what the front of s becomes, taken the front and counted it where it is
-- ill-formed: it leaves new and stops at r
pub record Fronted (old : List ℕ) (at : ℕ) (s : List ℕ) (new : List ℕ) (r taken count : ℕ) : Type 0 where
  pub puts : Put old at (piece_of (front_of s) s) new r
  pub takes : taken ≡ front_size (front_of s)
  pub counts : count ≡ ill_formed (front_of s)

-- the front of s becomes so many bytes, and has so many
pub record Measured (s : List ℕ) (becomes taken : ℕ) : Type 0 where
  pub long : becomes ≡ length (piece_of (front_of s) s)
  pub takes : taken ≡ front_size (front_of s)
