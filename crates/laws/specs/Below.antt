-- What holds at some, and at each, of the numbers below a bound, and the least where it holds. Assumes nothing.
use Rattle.std.specs.Prelude.{ℕ, zero, suc, Bool, true, false, cond, ◌&&◌, ◌||◌}

-- p holds at some of the numbers below n
abbrev pub some_below : ℕ → (ℕ → Bool) → Bool
some_below zero p = false
some_below (suc n) p = p n || some_below n p

-- p holds at each of the numbers below n
abbrev pub each_below : ℕ → (ℕ → Bool) → Bool
each_below zero p = true
each_below (suc n) p = p n && each_below n p

-- the least number below n at which p holds; n where it holds at none
abbrev pub least_below : ℕ → (ℕ → Bool) → ℕ
least_below zero p = zero
least_below (suc n) p = cond (p zero) zero (suc (least_below n (λ f. p (suc f))))
