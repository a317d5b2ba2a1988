-- Numbers in decimal. Assumes nothing.
use Rattle.std.specs.Prelude.{ℕ, zero, suc, ◌+◌, ◌/◌, ◌%◌, List, [], ◌∷◌, ◌++◌, cond, ltb}

-- n in decimal, in no more than k + 1 digits: below ten one digit, else the digits of n / 10 and then that of n % 10
unfoldable pub digits : ℕ → ℕ → List ℕ
digits zero n = (48 + n) ∷ []
digits (suc k) n = cond (ltb n 10) ((48 + n) ∷ []) (digits k (n / 10) ++ ((48 + n % 10) ∷ []))

-- n in decimal, in ASCII, with no zeros in front; 0 is "0". (No number n has more than n + 1 digits.)
unfoldable pub decimal : ℕ → List ℕ
decimal n = digits n n
