-- 02, K5: what some bytes are as a part of a name: the first row of the table that gives them a value. (No two rows do.) Assumes nothing.
use Rattle.std.specs.Prelude.{ℕ, List, [], ◌∷◌, cond, eqb}
use Rattle.grammar.specs.Forms.{Form}
use Rattle.grammar.specs.Rows.{Row, rows}
use Rattle.compare.specs.Compare.{same}
use Rattle.letters.specs.Letters.{language_value, region_value}
use Rattle.forms.specs.Values.{number_value, density_value, sides_value, minor_value}
use Rattle.parts.specs.declared.Found.{Found}

-- one word
abbrev pub word_value : ℕ → List ℕ → List ℕ → ℕ
word_value v w s = cond (same s w) v 0

-- the value that a form gives to bytes, and 0 where it doesn't make them: no part puts 0
unfoldable pub value_in : Form → List ℕ → ℕ
value_in (Form.number front back) s = number_value front back s
value_in Form.density s = density_value s
value_in Form.sides s = sides_value s
value_in Form.minor s = minor_value s
value_in Form.language s = language_value s
value_in Form.region s = region_value s
value_in (Form.word v w) s = word_value v w s

-- a value in a slot
abbrev pub in_slot : ℕ → ℕ → Found
in_slot slot value = record { slot = slot; value = value }

-- bytes that are no part
abbrev pub nothing : Found
nothing = in_slot 0 0

-- what the first row says that gives the bytes s a value
unfoldable pub first_of : List Row → List ℕ → Found
first_of [] s = nothing
first_of (r ∷ rs) s = cond (eqb (value_in r.1 s) 0) (first_of rs s) (in_slot r.0 (value_in r.1 s))

-- what the bytes s are
unfoldable pub recognised : List ℕ → Found
recognised s = first_of rows s
