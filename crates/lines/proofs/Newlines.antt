-- Each line of a listing is ended by one newline, and has no other. Assumes nothing.
use Prim.Native.Nat.{ℕ, suc}
use mathlib.Core.Path.{refl}
use mathlib.Core.List.{List, [], ◌∷◌, ◌++◌}
use lib.Dec.{eqb}
use lib.ListN.{drop}
use Rattle.laws.proofs.Choice.{chosen}
use Rattle.buffer.specs.Ascii.{ascii}
use Rattle.answers.specs.declared.Refusal.{Refusal}
use Rattle.answers.specs.declared.Told.{Told}
use Rattle.runs.specs.declared.Stop.{Stop}
use Rattle.runs.specs.Fronts.{stop_tells}
use Rattle.runs.specs.Runs.{offsets_of, run_of}
use Rattle.record_line.specs.Ended.{Unbroken, none, Ended}
use Rattle.record_line.proofs.Newlines.{both, fixed, number, gap, record_ended}
use Rattle.lines.specs.Lines.{age_line, reason_words, stop_line, record_lines, listing_of, too_much}
use Rattle.lines.specs.Listing.{EachEnded}

-- the line with the age, and the last one
age_ended : (a : ℕ) → Ended (age_line a)
unfolding age_line
age_ended a = record { front = _; is = refl; unbroken = both (fixed (ascii "age ") tt) (number a) }

reason_unbroken : (told : Told) → Unbroken (reason_words told)
unfolding reason_words
reason_unbroken told = both (number told.number) (chosen Unbroken (eqb told.number 2) (both gap (number told.carried)) none)

stop_ended : (p : ℕ) (stop : Stop) → Ended (stop_line p stop)
unfolding stop_line
stop_ended p stop = record {
  front = _;
  is = refl;
  unbroken = both (both (both (fixed (ascii "stop ") tt) (number p)) gap) (reason_unbroken (stop_tells stop));
}

-- those of records
records_ended : (a : ℕ) (s : List ℕ) (i : ℕ) (ps : List ℕ) (ws : List (List ℕ)) → EachEnded ws → EachEnded (record_lines a s i ps ++ ws)
unfolding record_lines
records_ended a s i [] ws h = h
records_ended a s i (p ∷ ps) ws h = (record_ended a i p (drop p s), records_ended a s (suc i) ps ws h)

-- each line of every listing
pub one_newline : (a : ℕ) (s : List ℕ) → EachEnded (listing_of a s)
unfolding listing_of
one_newline a s =
    chosen EachEnded (too_much s) (age_ended a, (stop_ended 0 (Stop.Refused Refusal.TooMuchInput), tt))
    (age_ended a, records_ended a s 0 (offsets_of s 0) _ (stop_ended (run_of s 0).offset (run_of s 0).stop, tt))
