-- The one outcome of a call whose contract is an equation with a definition. Assumes nothing.
use mathlib.Core.Path.{◌≡◌, sym, ◌∙◌}

-- any two answers that a definition allows for the same input are one
pub one_answer : {A B : Type 0} (definition : A → B) (input : A) (r s : B) → r ≡ definition input → s ≡ definition input → r ≡ s
one_answer definition input r s p q = p ∙ sym q
