-- 02, K9: finding a record's entry among entries. An entry is 76 bytes: a key (60), an offset (8) and a count (8). Assumes nothing.
use Rattle.std.specs.Prelude.{ℕ, ◌*◌, ◌/◌, List, Bool, cond, ltb, length, take, Option, None, Some, Result}
use Rattle.laws.specs.Below.{least_below}
use Rattle.answers.specs.declared.Refusal.{Refusal}
use Rattle.answers.specs.declared.Told.{Told}
use Rattle.answers.specs.Tells.{success, refusal, tells, amount_found}
use Rattle.record.specs.Table.{part}
use Rattle.record.specs.declared.ResTableConfig.{ResTableConfig}
use Rattle.order.specs.Order.{agree}
use Rattle.keys.specs.Keys.{key_of}
use Rattle.reading.specs.Reading.{plain, if_whole}

-- how many whole entries stand in e
abbrev pub whole_in : List ℕ → ℕ
whole_in e = length e / 76

-- whether the entry at place i of e, counted from 0, has the key k
unfoldable pub has_key : List ℕ → List ℕ → ℕ → Bool
has_key e k i = agree (part e (76 * i) 60) k

-- the place of the first whole entry of e that has the key k; as many as there are whole entries where none has it
unfoldable pub place_of : List ℕ → List ℕ → ℕ
place_of e k = least_below (whole_in e) (has_key e k)

-- what is found at a place of n: an entry, or nothing where no entry of the n stands there
abbrev pub found_at : ℕ → ℕ → Option ℕ
found_at n place = cond (ltb place n) (Some place) None

-- the entry of a record among the entries e: the first whole one with its key
unfoldable pub find_of : List ℕ → ResTableConfig → Option ℕ
find_of e r = found_at (whole_in e) (place_of e (key_of r))

-- what is told of what is found: 1 + the place of an entry, and 0 of nothing
abbrev pub found_tells : Option ℕ → Told
found_tells found = success (amount_found found)

-- what the answer of a call tells that looks for the record at the front of some bytes
abbrev pub sought_tells : Result (Option ℕ) Refusal → Told
sought_tells answer = tells amount_found answer

-- how many bytes of entries such a call looks at: an answer of the C face has 32 bits for 1 + the place, so 4,294,967,294 entries
abbrev pub looked_at : ℕ
looked_at = 76 * 4294967294

-- finding the record at the front of s among the entries e
unfoldable pub find_told : List ℕ → List ℕ → Told
find_told e s = if_whole s refusal (found_tells (find_of (take looked_at e) (plain s)))
