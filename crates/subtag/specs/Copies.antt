-- What a copier of subtags does: it puts their text, and tells how many replacements it has. Assumes nothing.
use Rattle.std.specs.Prelude.{ℕ, ◌≡◌, List}
use Rattle.answers.specs.declared.Counted.{Counted}
use Rattle.buffer.specs.Put.{Put}
use Rattle.subtag.specs.declared.Copied.{Copied}

-- the outcome of a copier that found the buffer old: it has put w from offset at on, and leaves new; the n replacements are counted
-- whether or not there was room
pub record Copies (old : List ℕ) (at : ℕ) (w : List ℕ) (n : ℕ) (new : List ℕ) (r : Copied) : Type 0 where
  pub puts : Put old at w new r.at
  pub counts : r.replacements ≡ n

-- what a call gives that put a copy at the front of a buffer with room for it
abbrev pub counted_by : Copied → Counted
counted_by copied = record { length = copied.at; replacements = copied.replacements }
