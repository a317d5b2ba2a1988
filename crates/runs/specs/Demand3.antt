-- Demand 3, as one statement about what the calls return; the comments are its words. Assumes nothing.
use Rattle.std.specs.Prelude.{ℕ, ◌-◌, ◌≤◌, ◌<◌, ◌≡◌, true, false, List, length, get_or, drop}
use Rattle.answers.specs.declared.Refusal.{Refusal}
use Rattle.buffer.specs.Written.{Outcome, wrote, refused}
use Rattle.record.specs.Ages.{is_age}
use Rattle.record.specs.Table.{end_of}
use Rattle.reading.specs.Reading.{parse_of, taken}
use Rattle.reading.specs.Demand3.{Alike}
use Rattle.marking.specs.Marks.{marks_outcome}
use Rattle.places.specs.Places.{text_of}
use Rattle.text.specs.Text.{plain_text, aged_text}
use Rattle.runs.specs.Fronts.{stop_at, stop_tells, found}
use Rattle.runs.specs.Runs.{front_at, step_of, finds_of, stands_of, last_of}

-- a call that shows a text succeeds
abbrev pub Shows : Outcome → Type 0
Shows o = o.tells.number ≡ 0

-- every byte of the record at the front of t at or past a is zero
abbrev pub ZeroFrom : ℕ → List ℕ → Type 0
ZeroFrom a t = (k : ℕ) → a ≤ k → k < taken t → get_or t k 0 ≡ 0

-- what the demand says of the record at offset q of s, with buffers x and y of equal length for the texts
pub record OfRecord (s : List ℕ) (q older newer : ℕ) (x y : List ℕ) : Type 0 where
  -- Fields both know have the values demand 2's parsing gives,
  pub older_values : Alike older (step_of older s q).gives (parse_of (drop q s)).gives
  pub newer_values : Alike older (step_of newer s q).gives (parse_of (drop q s)).gives
  -- and equal marks.
  pub marks : (m n : List ℕ) → 14 ≤ length m → 14 ≤ length n → (f : ℕ) → 1 ≤ f → f ≤ 14 → end_of f ≤ older
      → get_or (marks_outcome older (drop q s) m).leaves (f - 1) 0 ≡ get_or (marks_outcome newer (drop q s) n).leaves (f - 1) 0
  -- The older shows a record's text exactly when every byte of it at or past its age is zero and the text fits;
  pub shows_when : Shows (aged_text older (drop q s) x) → ZeroFrom older (drop q s) × (length (text_of (parse_of (drop q s)).gives) ≤ length x)
  pub when_shows : ZeroFrom older (drop q s) → length (text_of (parse_of (drop q s)).gives) ≤ length x → Shows (aged_text older (drop q s) x)
  -- then it is demand 2's text,
  pub plain_text_lem : Shows (aged_text older (drop q s) x) → (aged_text older (drop q s) x ≡ plain_text (drop q s) x) × (plain_text (drop q s) x ≡ wrote (text_of (parse_of (drop q s)).gives) x)
  -- and the newer shows it too.
  pub newer_too : Shows (aged_text older (drop q s) x) → aged_text newer (drop q s) y ≡ wrote (text_of (parse_of (drop q s)).gives) y
  -- If any such byte isn't zero, it refuses by name and shows no text.
  pub refuses : (k : ℕ) → older ≤ k → k < taken (drop q s) → (get_or (drop q s) k 0 ≡ 0 → ⊥) → aged_text older (drop q s) x ≡ refused Refusal.HeldBack x

-- what it says of the run of s that begins at p
pub record OfRun (s : List ℕ) (p older newer : ℕ) (x y : List ℕ) : Type 0 where
  -- Both readers find the same records at the same places,
  pub offsets : finds_of older s p ≡ finds_of newer s p
  -- and stop at the same byte
  pub stop : stands_of older s p ≡ stands_of newer s p
  -- (each has stopped there: its next step finds no record, and tells why the run stops)
  pub stopped : ((last_of older s p).tells ≡ stop_tells (stop_at (front_at s) (stands_of older s p))) × (found (last_of older s p) ≡ false)
  -- for the same reason.
  pub reason : (last_of older s p).tells ≡ (last_of newer s p).tells
  -- Of each record that they find:
  pub each : (i : ℕ) → i < length (finds_of older s p) → OfRecord s (get_or (finds_of older s p) i 0) older newer x y

-- Take a run of records, two of the twelve reader ages, and text buffers of equal length.
abbrev pub Demand3 : Type 0
Demand3 =
    (s : List ℕ) (p older newer : ℕ) (x y : List ℕ) → older ≤ newer → is_age older ≡ true → is_age newer ≡ true → length x ≡ length y
    → OfRun s p older newer x y
