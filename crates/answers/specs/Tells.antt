-- What each case of an answer tells in 01's numbers. Assumes nothing.
use Rattle.std.specs.Prelude.{ℕ, ◌+◌, ◌*◌, ◌%◌, cond, eqb, Option, None, Some, Result, Ok, Err}
use Rattle.answers.specs.declared.Refusal.{Refusal}
use Rattle.answers.specs.declared.Told.{Told}
use Rattle.answers.specs.Numbers.{carried_by, number_of}

-- a success: 0, and an amount: the bytes taken or written, or what the definition for the answer says
abbrev pub success : ℕ → Told
success amount = record { number = 0; amount = amount; carried = 0 }

-- a refusal tells itself: its number, amount 0, and what it carries
abbrev pub refusal : Refusal → Told
refusal why = record { number = number_of why; amount = 0; carried = carried_by why }

-- what an answer tells, where what a call gives is seen as an amount
abbrev pub tells : {A : Type 0} → (A → ℕ) → Result A Refusal → Told
tells amount (Ok given) = success (amount given)
tells amount (Err why) = refusal why

-- what the answer of a call tells that gives its amount: the bytes taken or written, or what it counts
abbrev pub told_of : Result ℕ Refusal → Told
told_of answer = tells (λ n. n) answer

-- the amount that tells of a place that was looked for: 1 + the place, and 0 where there is none
abbrev pub amount_found : Option ℕ → ℕ
amount_found (Some place) = 1 + place
amount_found None = 0

-- the amount of a success, or what a refusal carries
abbrev pub low_of : Told → ℕ
low_of t = cond (eqb t.number 0) t.amount t.carried

-- what is told as one number: the number times 2^32, and the lower 32 bits of that
abbrev pub packed_of : Told → ℕ
packed_of t = t.number * 4294967296 + low_of t % 4294967296
