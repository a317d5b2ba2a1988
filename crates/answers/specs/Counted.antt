-- 02, K1: an answer with the number of replacements that goes along with a text. Assumes nothing.
use Rattle.std.specs.Prelude.{ℕ, Result, Ok, Err}
use Rattle.answers.specs.declared.Counted.{Counted}
use Rattle.answers.specs.declared.Refusal.{Refusal}

-- the answer of a call whose text has n replacements; a refused call made none
abbrev pub counted_with : ℕ → Result ℕ Refusal → Result Counted Refusal
counted_with n (Ok m) = Ok (record { length = m; replacements = n })
counted_with n (Err why) = Err why

-- what an answer says of the bytes alone
abbrev pub written_by : Result Counted Refusal → Result ℕ Refusal
written_by (Ok counted) = Ok counted.length
written_by (Err why) = Err why

-- the replacements that an answer tells; a refused call made none
abbrev pub replacements_by : Result Counted Refusal → ℕ
replacements_by (Ok counted) = counted.replacements
replacements_by (Err why) = 0
