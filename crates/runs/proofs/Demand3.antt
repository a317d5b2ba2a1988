-- Demand 3 holds: its proof, from what the calls return. Assumes nothing.
use Prim.Native.Nat.{ℕ, ◌≤◌, ◌<◌}
use mathlib.Core.Path.{◌≡◌, sym}
use mathlib.Core.Bool.{true}
use mathlib.Core.List.{List}
use native.Mathlib.Omega.{arith}
use lib.ListN.{length, get_or, drop}
use Rattle.record.specs.Ages.{is_age}
use Rattle.reading.specs.Reading.{taken}
use Rattle.reading.proofs.TwoAges.{aged_alike}
use Rattle.runs.specs.Runs.{finds_of}
use Rattle.runs.specs.Demand3.{OfRecord, Demand3}
use Rattle.runs.proofs.Along.{same_offsets, same_stop, stops_there, same_reason}
use Rattle.runs.proofs.Records.{record_steps, each_whole, finds_are}
use Rattle.runs.proofs.Showing.{parse_plain, step_gives, same_marks, shows_zero, zero_shows, shows_plain, newer_shows, byte_refuses}

-- of an offset where a whole record stands
pub of_record : (s : List ℕ) (q older newer : ℕ) (x y : List ℕ) → older ≤ newer → is_age older ≡ true → is_age newer ≡ true → length x ≡ length y
    → taken (drop q s) ≤ length (drop q s) → OfRecord s q older newer x y
of_record s q a b x y rising older newer even whole =
    let t = drop q s in
    let e = parse_plain t whole in
    record {
      older_values = rw (e, step_gives a s q older whole) (aged_alike a a t (omega arith));
      newer_values = rw (e, step_gives b s q newer whole) (aged_alike a b t rising);
      marks = same_marks t whole a b rising older newer;
      shows_when = rw e (shows_zero t whole a older x);
      when_shows = rw e (zero_shows t whole a older x);
      plain_text_lem = rw e (shows_plain t whole a older x);
      newer_too = rw e (newer_shows t whole a b rising older newer x y even);
      refuses = byte_refuses t whole a older x;
    }

-- demand 3
pub demand_3 : Demand3
demand_3 s p a b x y rising older newer even =
    let old = record_steps a s in
    let new = record_steps b s in
    record {
      offsets = same_offsets old new older newer p;
      stop = same_stop old new older newer p;
      stopped = stops_there old new older newer p;
      reason = same_reason old new older newer p;
      each = λ i h. of_record s (get_or (finds_of a s p) i 0) a b x y rising older newer even (whole i h);
    } where
      whole : (i : ℕ) → i < length (finds_of a s p) → taken (drop (get_or (finds_of a s p) i 0) s) ≤ length (drop (get_or (finds_of a s p) i 0) s)
      whole i h = rw (finds_are a s (sym older) p) (each_whole s p i (rw (finds_are a s (sym older) p) at h))
