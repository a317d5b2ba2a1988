-- 02, K5: what is claimed of the table of the grammar. Assumes nothing.
use Rattle.std.specs.Prelude.{ℕ, ◌≤◌, ◌<◌, ◌≡◌, true, List, length, get_or}
use Rattle.kinds.specs.declared.Kind.{Kind}
use Rattle.kinds.specs.declared.screen.Density.{Density}
use Rattle.said_kinds.specs.Said.{kind_said}
use Rattle.words.specs.Words.{words_of}
use Rattle.grammar.specs.Forms.{Form}
use Rattle.grammar.specs.Rows.{rows, In}

-- words that aren't empty and carry no '='
pub record Plain (w : List ℕ) : Type 0 where
  pub some : 1 ≤ length w
  pub unequalled : (i : ℕ) → i < length w → get_or w i 0 ≡ 61 → ⊥

-- every word of the table is plain
abbrev pub WordsArePlain : Type 0
WordsArePlain = (s v : ℕ) (w : List ℕ) → In (s, Form.word v w) rows → Plain w

-- a word of the table
pub record Listed (w : List ℕ) : Type 0 where
  pub slot : ℕ
  pub value : ℕ
  pub listed : In (slot, Form.word value w) rows

-- and all plain words that are said of a kind are in it, but for the densities that are said by their number
abbrev pub WordsAreListed : Type 0
WordsAreListed = (k : Kind) → kind_said k ≡ true → Plain (words_of k) → ((v : ℕ) → k ≡ Kind.Density (Density.Unknown v) → ⊥) → Listed (words_of k)
