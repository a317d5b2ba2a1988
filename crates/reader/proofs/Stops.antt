-- 01 of a reader's age and offset: without an age it is of the default age, and past the bytes it stops at its offset with 1.
--     default-known        the default age is one of the twelve
--     past-along           past the bytes, along any run of what can't stand in no bytes
--     front-age, past-stops    of the run reader
-- Assumes nothing.
use Prim.Native.Nat.{ℕ, ◌<◌}
use mathlib.Core.Path.{◌≡◌, refl, ap, ◌∙◌}
use mathlib.Core.Bool.{true}
use mathlib.Core.List.{List, []}
use native.Mathlib.Omega.{arith}
use lib.ListN.{length, drop_of_length-le}
use denote.Ref.{Bor}
use Rattle.answers.specs.declared.Refusal.{Refusal}
use Rattle.answers.specs.Tells.{refusal}
use Rattle.record.specs.Ages.{default_age, is_age}
use Rattle.reading.specs.Reading.{if_whole}
use Rattle.std.specs.Prelude.{Result, Ok, Err}
use Rattle.runs.specs.declared.Stop.{Stop}
use Rattle.runs.specs.Runs.{step_of, step_stays}
use Rattle.runs.proofs.Along.{Run, Steps, inside, finds_none}
use Rattle.runs.proofs.Records.{record_steps}
use Rattle.reader.specs.declared.RunReader.{RunReader}
use Rattle.reader.specs.Reader.{reader_of}

pub default_known : true ≡ is_age default_age
unfolding is_age
default_known = refl

-- a reader that is made without an age reads at an age, the default
pub front_age : (b : Bor (List ℕ)) → ((reader_of b).age.0 ≡ default_age) × (true ≡ is_age (reader_of b).age.0)
front_age b = (refl, default_known)

-- with its offset past the bytes a reader stops at that offset with 1: what stands there is what stands in no bytes
pub past_along : {s : List ℕ} {run : Run s} {a : ℕ} (by : Steps run a) → run.here [] ≡ Err (Stop.Refused Refusal.TooFewBytes)
    → true ≡ is_age a → (p : ℕ) → length s < p → by.step p ≡ step_stays p (refusal Refusal.TooFewBytes)
past_along {s} {run} by none known p past =
    finds_none by known p _ (inside run p (λ e. omega arith) ∙ ap run.here (drop_of_length-le s {i = p} (omega arith)) ∙ none)

pub past_stops : (d : RunReader) → true ≡ is_age d.age.0 → length d.bytes.now < d.offset
    → step_of d.age.0 d.bytes.now d.offset ≡ step_stays d.offset (refusal Refusal.TooFewBytes)
unfolding if_whole
past_stops d known past = past_along (record_steps d.age.0 d.bytes.now) refl known d.offset past
