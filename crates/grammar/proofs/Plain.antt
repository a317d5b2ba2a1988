-- No word of the table is empty, and none carries '='. Assumes nothing.
use Prim.Native.Nat.{ℕ, zero, suc, ◌<◌}
use mathlib.Core.Path.{◌≡◌, refl}
use mathlib.Core.Bool.{Bool, true, not, ◌&&◌}
use mathlib.Core.List.{List, [], ◌∷◌}
use native.Mathlib.Omega.{arith}
use lib.Dec.{eqb, leb}
use lib.ListN.{length, get_or}
use borrow.Author.Tests.{eqb-false, leb-true, not-true}
use Rattle.laws.proofs.Tests.{and_both}
use Rattle.grammar.specs.Forms.{Form}
use Rattle.grammar.specs.Rows.{rows, kind_rows, word_rows, word_row}
use Rattle.grammar.specs.Claims.{WordsArePlain}
use Rattle.grammar.proofs.Listed.{passes, row_passes}

-- whether no byte is '='
abbrev unequalled : List ℕ → Bool
unequalled [] = true
unequalled (b ∷ w) = not (eqb b 61) && unequalled w

-- then none is
none_equals : (w : List ℕ) → unequalled w ≡ true → (i : ℕ) → i < length w → get_or w i 0 ≡ 61 → ⊥
none_equals [] e i h = λ g. omega arith
none_equals (b ∷ w) e zero h = eqb-false b 61 (not-true (eqb b 61) (and_both {a = not (eqb b 61)} {b = unequalled w} e).0)
none_equals (b ∷ w) e (suc i) h = none_equals w (and_both {a = not (eqb b 61)} {b = unequalled w} e).1 i (omega arith)

-- whether a row is plain, which is asked of words alone
abbrev plain_row : ℕ → Form → Bool
plain_row s (Form.word v w) = leb 1 (length w) && unequalled w
plain_row s (Form.number front back) = true
plain_row s Form.density = true
plain_row s Form.sides = true
plain_row s Form.minor = true
plain_row s Form.language = true
plain_row s Form.region = true

-- every row is
all_plain : passes plain_row rows ≡ true
unfolding rows kind_rows word_rows word_row
all_plain = refl

pub words_are_plain : WordsArePlain
words_are_plain s v w i =
    let q = and_both {a = leb 1 (length w)} {b = unequalled w} (row_passes plain_row s (Form.word v w) rows all_plain i) in
    record { some = leb-true 1 (length w) q.0; unequalled = none_equals w q.1 }
