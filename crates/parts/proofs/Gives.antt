-- A form gives its value to what it makes, and makes that to which it gives a value. Assumes nothing.
use Prim.Native.Nat.{ℕ, ◌≤◌}
use mathlib.Core.Path.{◌≡◌}
use mathlib.Core.List.{List}
use native.Mathlib.Omega.{arith}
use Rattle.laws.proofs.Choice.{chosen_by}
use Rattle.grammar.specs.Forms.{Form, Makes}
use Rattle.compare.specs.Compare.{same}
use Rattle.compare.proofs.Compare.{same_true, same_refl}
use Rattle.letters.proofs.Letters.{language_forth, language_back, region_forth, region_back}
use Rattle.forms.proofs.Values.{number_gives, number_makes, density_gives, density_makes, sides_give, sides_make, minor_gives, minor_makes}
use Rattle.parts.specs.Recognised.{value_in}

-- what a form makes has the value that it puts
pub gives : {f : Form} {v : ℕ} {w : List ℕ} → Makes f v w → value_in f w ≡ v
unfolding value_in
gives (Makes.number h) = number_gives (Makes.number h)
gives (Makes.density h e) = density_gives (Makes.density h e)
gives (Makes.sides h k f) = sides_give (Makes.sides h k f)
gives (Makes.minor h k) = minor_gives (Makes.minor h k)
gives (Makes.two_letters a b) = language_forth (Makes.two_letters a b)
gives (Makes.three_letters a b c n) = language_forth (Makes.three_letters a b c n)
gives (Makes.two_capitals a b) = region_forth (Makes.two_capitals a b)
gives (Makes.three_digits a b c) = region_forth (Makes.three_digits a b c)
gives (Makes.word {v = v} {w = w}) = rw (same_refl w)

-- what has a value is made
pub makes : (f : Form) (s : List ℕ) (v : ℕ) → value_in f s ≡ v → 1 ≤ v → Makes f v s
unfolding value_in
makes (Form.number front back) s v = number_makes front back s v
makes Form.density s v = density_makes s v
makes Form.sides s v = sides_make s v
makes Form.minor s v = minor_makes s v
makes Form.language s v = language_back s v
makes Form.region s v = region_back s v
makes (Form.word u w) s v =
    chosen_by (λ (x : ℕ). x ≡ v → 1 ≤ v → Makes (Form.word u w) v s) (same s w)
    (λ t e h. rw (← e, same_true s w t) Makes.word) (λ t e h. absurd (omega arith))
