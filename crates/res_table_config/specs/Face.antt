-- The C entry points: what an answer tells, and what the order of two records given as bytes tells. Assumes nothing.
use Rattle.std.specs.Prelude.{ℕ, ◌/◌, ◌%◌, cond, List, eqb}
use Rattle.answers.specs.declared.Told.{Told}
use Rattle.answers.specs.Tells.{success, refusal}
use Rattle.buffer.specs.Written.{Outcome}
use Rattle.order.specs.Order.{order_of, ordering_tells}
use Rattle.reading.specs.Reading.{plain, if_whole}

-- an answer's upper half is the number
abbrev pub upper : ℕ → ℕ
upper r = r / 4294967296

-- its lower half is the amount of a success, or what a refusal carries
abbrev pub lower : ℕ → ℕ
lower r = r % 4294967296

-- what an answer tells
abbrev pub answer_tells : ℕ → Told
answer_tells r =
    cond (eqb (upper r) 0) (success (lower r)) (record { number = upper r; amount = 0; carried = lower r })

-- what an answer and a lent buffer come to
abbrev pub answer_outcome : ℕ → List ℕ → Outcome
answer_outcome r buffer = record { tells = answer_tells r; leaves = buffer }

-- the order of the records at the front of a and of b: the first one's refusal comes before any of the second's
abbrev pub order_told : List ℕ → List ℕ → Told
order_told a b =
    if_whole a refusal
    (if_whole b refusal (success (ordering_tells (order_of (plain a) (plain b)))))
