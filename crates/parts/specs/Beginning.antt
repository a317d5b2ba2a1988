-- What private contracts cite of the rows by the byte with which their parts begin. No public contract rests on it. Assumes nothing.
use Rattle.std.specs.Prelude.{ℕ, List, [], ◌∷◌, Bool, false, cond, ◌&&◌, leb, eqb}
use Rattle.grammar.specs.Forms.{Form}
use Rattle.grammar.specs.Rows.{Row, rows}
use Rattle.parts.specs.declared.Found.{Found}
use Rattle.parts.specs.Recognised.{first_of}

-- whether a byte is a digit
abbrev pub is_digit : ℕ → Bool
is_digit b = leb 48 b && leb b 57

-- a byte, with all digits as one
abbrev pub class_of : ℕ → ℕ
class_of b = cond (is_digit b) 48 b

-- the first byte of a word, by its class
abbrev pub head_of : List ℕ → ℕ
head_of [] = 48
head_of (b ∷ w) = class_of b

-- whether parts of a form begin with a byte of class k; a language may begin with any letter, and is asked for apart
abbrev pub leads : Form → ℕ → Bool
leads (Form.number front back) k = eqb (head_of front) k
leads Form.density k = eqb 48 k
leads Form.sides k = eqb 48 k
leads Form.minor k = eqb 118 k
leads Form.language k = false
leads Form.region k = eqb 114 k
leads (Form.word v w) k = eqb (head_of w) k

-- the rows whose parts begin with bytes of a class
unfoldable pub beginning : ℕ → List Row → List Row
beginning k [] = []
beginning k (r ∷ rs) = cond (leads r.1 k) (r ∷ beginning k rs) (beginning k rs)

-- what is found among the rows that begin with a byte of a class
abbrev pub found_by : ℕ → List ℕ → Found
found_by k s = first_of (beginning k rows) s
