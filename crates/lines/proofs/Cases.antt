-- What a call for a line comes to, for each cursor and each of its answers. Assumes nothing.
use Prim.Native.Nat.{ℕ, ◌+◌, ◌≤◌, ◌<◌}
use mathlib.Core.Path.{◌≡◌, sym, ap, ◌∙◌}
use mathlib.Core.Bool.{true, false, cond}
use mathlib.Core.List.{List, []}
use native.Mathlib.Omega.{arith}
use native.Mathlib.Numerals.{add-one}
use lib.Dec.{eqb}
use lib.ListN.{length, drop}
use borrow.Author.Tests.{lt-ltb, le-ltb, le-leb}
use Rattle.answers.specs.declared.Refusal.{Refusal}
use Rattle.std.specs.Prelude.{Result, Ok, Err}
use Rattle.answers.specs.Tells.{told_of}
use Rattle.buffer.specs.Written.{outcome, written}
use Rattle.buffer.proofs.Writing.{written_fits}
use Rattle.record.specs.Ages.{is_age}
use Rattle.reading.proofs.Whole.{age_known, age_unknown}
use Rattle.runs.specs.declared.Stop.{Stop}
use Rattle.runs.specs.Runs.{front_at}
use Rattle.runs.proofs.Records.{front_fits}
use Rattle.record_line.specs.LineIn.{line_in}
use Rattle.record_line.proofs.Answers.{line-is}
use Rattle.lines.specs.declared.Cursor.{Cursor}
use Rattle.lines.specs.declared.Lined.{Lined}
use Rattle.lines.specs.Lines.{LineOutcome, age_line, stop_line, line_at, after, lined_outcome, line_refused, line_written, line_of}
use Rattle.lines.proofs.Answers.{went}

-- the empty line is written to any buffer, and none of its bytes changes
none_written : (c next : Cursor) (old : List ℕ) → lined_outcome (record { answer = Ok 0; cursor = next }) old ≡ line_written [] c next old
none_written c next old =
    let h : 0 ≤ length old = omega arith in rw (written_fits [] old h, le-leb 0 (length old) h)

-- the call at an index and an offset, behind 7 and 3
module _ (a i p : ℕ) (s old : List ℕ) where
  abbrev pub here : Cursor
  here = Cursor.Record i p

  abbrev pub came : LineOutcome
  came = line_written (line_at a s here) here (after s here) old

  -- an index past its offset
  pub past_offset : p < i → lined_outcome (record { answer = Ok 0; cursor = Cursor.End }) old ≡ came
  unfolding line_at after
  past_offset h = rw (lt-ltb p i h) (none_written here Cursor.End old)

  module _ (h : i ≤ p) (answer : Result ℕ Refusal) (new : List ℕ) (lined : Lined) where
    -- a record of n bytes stands there whole
    pub record_went : true ≡ is_age a → (n : ℕ) → front_at s p ≡ Ok n → outcome answer new ≡ written (line_in a n i p (drop p s)) old
        → (lined.answer ≡ answer) × (lined.cursor ≡ cond (eqb (told_of answer).number 0) (Cursor.Record (i + 1) (p + n)) here)
        → lined_outcome lined new ≡ came
    unfolding line_at after
    record_went known n e o g =
        let f = front_fits s p n e in
        rw (le-ltb p i h, e, ← add-one i)
        (went _ old here _ answer new lined (o ∙ ap (λ (w : List ℕ). written w old) (line-is a (drop p s) known i p n f.0 f.1)) g)

    -- none does
    pub stop_went : (stop : Stop) → front_at s p ≡ Err stop → outcome answer new ≡ written (stop_line p stop) old
        → (lined.answer ≡ answer) × (lined.cursor ≡ cond (eqb (told_of answer).number 0) Cursor.End here)
        → lined_outcome lined new ≡ came
    unfolding line_at after
    stop_went stop e o g = rw (le-ltb p i h, e) (went _ old here _ answer new lined o g)

-- the whole call
module _ (a : ℕ) (s : List ℕ) (c : Cursor) (old : List ℕ) where
  -- 7 comes first
  pub too_much : 65536 < length s → line_refused Refusal.TooMuchInput c old ≡ line_of a s c old
  unfolding line_of
  too_much h = rw (lt-ltb 65536 (length s) h)

  module _ (h : length s ≤ 65536) where
    -- then 3
    pub no_age : false ≡ is_age a → line_refused Refusal.NotAnAge c old ≡ line_of a s c old
    unfolding line_of
    no_age e = rw (le-ltb 65536 (length s) h) (sym (age_unknown a _ _ e))

    -- then the line
    pub at_age : true ≡ is_age a → line_of a s c old ≡ line_written (line_at a s c) c (after s c) old
    unfolding line_of
    at_age e = rw (le-ltb 65536 (length s) h) (age_known a _ _ e)

-- the first line, and behind the last
module _ (a : ℕ) (s old : List ℕ) where
  pub start_went : (answer : Result ℕ Refusal) (new : List ℕ) (lined : Lined) → outcome answer new ≡ written (age_line a) old
      → (lined.answer ≡ answer) × (lined.cursor ≡ cond (eqb (told_of answer).number 0) (Cursor.Record 0 0) Cursor.Start)
      → lined_outcome lined new ≡ line_written (line_at a s Cursor.Start) Cursor.Start (after s Cursor.Start) old
  unfolding line_at after
  start_went answer new lined o g = went _ old Cursor.Start _ answer new lined o g

  pub end_stays : lined_outcome (record { answer = Ok 0; cursor = Cursor.End }) old ≡ line_written (line_at a s Cursor.End) Cursor.End (after s Cursor.End) old
  unfolding line_at after
  end_stays = none_written Cursor.End Cursor.End old
