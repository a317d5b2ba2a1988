-- 01, "Ages, marks, runs": what is said of a run as a whole. Assumes nothing.
use Rattle.std.specs.Prelude.{ℕ, ◌-◌, ◌*◌, ◌≤◌, ◌<◌, ◌≡◌, List, length, get_or, drop}
use Rattle.answers.specs.declared.Refusal.{Refusal}
use Rattle.answers.specs.Tells.{refusal}
use Rattle.reading.specs.Reading.{take_of, taken}
use Rattle.runs.specs.Runs.{offsets_of, stop_of}

-- no whole record stands at the front of t
pub record NotWhole (t : List ℕ) : Type 0 where
  pub why : Refusal
  pub refused : refusal why ≡ take_of t

-- of the run of s that begins at p: a whole record stands at each of its offsets, none where it stops, and it has at most one
-- record for each 16 of the bytes there
pub record WholeRecords (s : List ℕ) (p : ℕ) : Type 0 where
  pub each : (i : ℕ) → i < length (offsets_of s p) → taken (drop (get_or (offsets_of s p) i 0) s) ≤ length (drop (get_or (offsets_of s p) i 0) s)
  pub stop : NotWhole (drop (stop_of s p) s)
  pub few : length (offsets_of s p) * 16 ≤ length s - p
