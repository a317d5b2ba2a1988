-- 01, "Text": said places. Assumes nothing.
use Rattle.std.specs.Prelude.{ℕ, ◌≡◌, List, [], ◌∷◌, ◌++◌, Bool, true, false, cond, ltb, length}
use Rattle.buffer.specs.Ascii.{ascii}
use Rattle.buffer.specs.Put.{Put}

-- a place: whether it is said, and its words
abbrev pub Place : Type 0
Place = Bool × List ℕ

-- '-' stands before the words if the text so far isn't empty
unfoldable pub dash_after : List ℕ → List ℕ
dash_after [] = []
dash_after (b ∷ t) = ascii "-"

-- the same dash by the offset in a buffer where the words are to stand: the first has none before it
abbrev pub dash_at : ℕ → List ℕ
dash_at at = cond (ltb 0 at) (ascii "-") []

-- the text after a place: as it was where the place isn't said
unfoldable pub say : List ℕ → Bool → List ℕ → List ℕ
say t false w = t
say t true w = t ++ dash_after t ++ w

-- the text after places in a row
unfoldable pub say_all : List ℕ → List Place → List ℕ
say_all t [] = t
say_all t (p ∷ ps) = say_all (say t p.0 p.1) ps

-- the outcome of a writer of places: where the front of a buffer held a text, as far as it went, it holds the text after them; it keeps its length
pub record Says (old : List ℕ) (at : ℕ) (ps : List Place) (new : List ℕ) (r : ℕ) : Type 0 where
  pub keeps : length new ≡ length old
  pub goes : (base t : List ℕ) → Put base 0 t old at → Put base 0 (say_all t ps) new r
