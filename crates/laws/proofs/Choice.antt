-- What is chosen of two values by a test. Assumes nothing.
use mathlib.Core.Path.{◌≡◌, refl}
use mathlib.Core.Bool.{Bool, true, false, not, cond}

-- what holds of each value where the test chooses it holds of the one that is chosen
pub chosen_by : {A : Type 0} (P : A → Type 0) (b : Bool) {x y : A} → (b ≡ true → P x) → (b ≡ false → P y) → P (cond b x y)
chosen_by P true p q = p refl
chosen_by P false p q = q refl

-- what holds of both holds of the one that is chosen
pub chosen : {A : Type 0} (P : A → Type 0) (b : Bool) {x y : A} → P x → P y → P (cond b x y)
chosen P b p q = chosen_by P b (λ e. p) (λ e. q)

-- by the opposite test the other is chosen
pub cond_not : {A : Type 0} (b : Bool) (x y : A) → cond (not b) x y ≡ cond b y x
cond_not true x y = refl
cond_not false x y = refl
