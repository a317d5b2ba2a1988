-- 01, "Ages, marks, runs": the records of a run, where it stops and why, and a step of its reader. Assumes nothing.
use Rattle.std.specs.Prelude.{ℕ, ◌/◌, List, length, drop, Result, Ok, Err}
use Rattle.answers.specs.declared.Told.{Told}
use Rattle.answers.specs.Tells.{refusal}
use Rattle.record.specs.declared.ResTableConfig.{ResTableConfig}
use Rattle.record.specs.Blank.{blank_record}
use Rattle.reading.specs.Reading.{taken, aged, if_whole, if_age}
use Rattle.runs.specs.declared.Stop.{Stop}
use Rattle.runs.specs.declared.Stepped.{Stepped}
use Rattle.runs.specs.declared.RunEnd.{RunEnd}
use Rattle.runs.specs.Fronts.{StepOutcome, front_in, offsets_in, stop_in, end_in, step_tells, stands, step_by, finds_in, stands_in}

-- what stands at the front of t: a whole record, which takes T bytes, or nothing, for the parse refusal
abbrev pub record_front : List ℕ → Result ℕ Stop
record_front t = if_whole t (λ why. Err (Stop.Refused why)) (Ok (taken t))

-- what stands at offset p of s: at the exact end nothing, else a record
unfoldable pub front_at : List ℕ → ℕ → Result ℕ Stop
front_at s p = front_in record_front s p

-- a run of n bytes gives at most n / 16 records
abbrev pub most : List ℕ → ℕ
most s = length s / 16

-- the offsets of the records of the run of s that begins at p
abbrev pub offsets_of : List ℕ → ℕ → List ℕ
offsets_of s p = offsets_in (most s) (front_at s) p

-- where the run stops
abbrev pub stop_of : List ℕ → ℕ → ℕ
stop_of s p = stop_in (most s) (front_at s) p

-- how many records it has, where it stops and why
abbrev pub run_of : List ℕ → ℕ → RunEnd
run_of s p = end_in (most s) (front_at s) p

-- what a step's answer, its offset and its record come to
abbrev pub step_outcome : Stepped → StepOutcome ResTableConfig
step_outcome stepped = record { tells = step_tells stepped.answer; next = stepped.next; gives = stepped.«record» }

-- no record is found: the reader stays at p, and the record that goes along holds nothing
abbrev pub step_stays : ℕ → Told → StepOutcome ResTableConfig
step_stays p told = stands blank_record p told

-- a step at p by a reader of age a: 3; else the record that is read by what stands there, or the stop of the run
abbrev pub step_in : (ℕ → Result ℕ Stop) → (ℕ → ResTableConfig) → ℕ → ℕ → StepOutcome ResTableConfig
step_in front read a p = if_age a (λ why. step_stays p (refusal why)) (step_by front blank_record read p)

-- a step at p of s: the record that stands there, as the age reads it
unfoldable pub step_of : ℕ → List ℕ → ℕ → StepOutcome ResTableConfig
step_of a s p = step_in (front_at s) (λ q. aged a (drop q s)) a p

-- the offsets at which a reader of age a finds the records of the run of s that begins at p
abbrev pub finds_of : ℕ → List ℕ → ℕ → List ℕ
finds_of a s p = finds_in (most s) (step_of a s) p

-- the offset at which it stops
abbrev pub stands_of : ℕ → List ℕ → ℕ → ℕ
stands_of a s p = stands_in (most s) (step_of a s) p

-- what its step there comes to
abbrev pub last_of : ℕ → List ℕ → ℕ → StepOutcome ResTableConfig
last_of a s p = step_of a s (stands_of a s p)
