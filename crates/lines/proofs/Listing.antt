-- The calls in a row give the whole listing, line by line. Assumes nothing.
use Prim.Native.Nat.{ℕ, zero, suc, ◌+◌, ◌*◌, ◌/◌, ◌≤◌, ◌<◌}
use mathlib.Core.Path.{◌≡◌, refl, ap, ◌∙◌}
use mathlib.Core.Bool.{true}
use mathlib.Core.List.{List, [], ◌∷◌, ◌++◌}
use native.Mathlib.Omega.{arith}
use lib.ListN.{length, drop, length-drop}
use lib.Seq.{get_or-drop}
use borrow.Author.Tests.{le-ltb, lt-ltb}
use Rattle.answers.specs.declared.Refusal.{Refusal}
use Rattle.buffer.specs.Written.{wrote}
use Rattle.buffer.proofs.Digits.{decimal_long}
use Rattle.record.specs.Table.{Bytes}
use Rattle.record.specs.Ages.{is_age}
use Rattle.record.proofs.Twelve.{age_bounds}
use Rattle.runs.specs.declared.Stop.{Stop}
use Rattle.std.specs.Prelude.{Result, Ok, Err}
use Rattle.runs.specs.Fronts.{by_front, offsets_in, end_in, stop_tells}
use Rattle.runs.specs.Runs.{front_at}
use Rattle.runs.proofs.Fronts.{standing, takes, stops, offset_next, stop_next, offset_none, stop_here, stop_is}
use Rattle.runs.proofs.Records.{front_says, front_within, stop_carries}
use Rattle.record_line.specs.RecordLine.{record_line}
use Rattle.lines.specs.declared.Cursor.{Cursor}
use Rattle.lines.specs.Lines.{age_line, stop_line, line_at, after, line_of, calls_of, cursor_of, record_lines, listing_of}
use Rattle.lines.specs.Listing.{Roomy, each_wrote, WholeListing}
use Rattle.lines.proofs.Bounds.{age_long, stop_long, whole_long}
use Rattle.lines.proofs.Exactly.{line_given_lem}

-- calls in a row from cursor c on give the lines ws, and lead to cursor d
pub record Gives (a : ℕ) (s : List ℕ) (c : Cursor) (ws : List (List ℕ)) (d : Cursor) : Type 0 where
  pub calls : (olds : List (List ℕ)) → Roomy olds → length olds ≡ length ws → calls_of a s c olds ≡ each_wrote ws olds
  pub leads : (olds : List (List ℕ)) → Roomy olds → length olds ≡ length ws → cursor_of a s c olds ≡ d

-- bytes from an offset on are bytes
drop_bytes : (p : ℕ) (s : List ℕ) → Bytes s → Bytes (drop p s)
drop_bytes p s h i = rw (get_or-drop p s i 0) (h (p + i))

module _ (a : ℕ) (s : List ℕ) (known : is_age a ≡ true) (small : length s ≤ 65536) where
  -- no line
  ended : (c : Cursor) → Gives a s c [] c
  unfolding calls_of cursor_of
  ended c = record {
    calls = λ olds. elim olds as (λ os. Roomy os → length os ≡ 0 → calls_of a s c os ≡ each_wrote [] os) [
      | [] ↦ λ r e. refl
      | old ∷ olds ↦ λ r e. absurd (omega arith)
    ];
    leads = λ olds. elim olds as (λ os. Roomy os → length os ≡ 0 → cursor_of a s c os ≡ c) [
      | [] ↦ λ r e. refl
      | old ∷ olds ↦ λ r e. absurd (omega arith)
    ];
  }

  -- a line, and those behind it
  then : (c : Cursor) (w : List ℕ) (ws : List (List ℕ)) (next d : Cursor) → line_at a s c ≡ w → after s c ≡ next → length w ≤ 1069
      → Gives a s next ws d → Gives a s c (w ∷ ws) d
  unfolding calls_of cursor_of
  then c w ws next d line goes l g = record {
    calls = λ olds. elim olds as (λ os. Roomy os → length os ≡ length (w ∷ ws) → calls_of a s c os ≡ each_wrote (w ∷ ws) os) [
      | [] ↦ λ r e. absurd (omega arith)
      | old ∷ olds ↦ λ r e. rw (step old r.0, g.calls olds r.1 (omega arith))
    ];
    leads = λ olds. elim olds as (λ os. Roomy os → length os ≡ length (w ∷ ws) → cursor_of a s c os ≡ d) [
      | [] ↦ λ r e. absurd (omega arith)
      | old ∷ olds ↦ λ r e. rw (step old r.0) (g.leads olds r.1 (omega arith))
    ];
  } where
    step : (old : List ℕ) → 1069 ≤ length old → line_of a s c old ≡ record { does = wrote w old; goes = next }
    step old r = line_given_lem a s c old small known (rw line (omega arith)) ∙ rw (line, goes)

  -- at an index and an offset, as no index of a listing is past its offset
  module _ (i p : ℕ) (before : i ≤ p) where
    line_here : line_at a s (Cursor.Record i p) ≡ by_front (stop_line p) (λ n. record_line a i p (drop p s)) (front_at s p)
    unfolding line_at
    line_here = rw (le-ltb p i before)

    goes_here : after s (Cursor.Record i p) ≡ by_front (λ stop. Cursor.End) (λ n. Cursor.Record (suc i) (p + n)) (front_at s p)
    unfolding after
    goes_here = rw (le-ltb p i before)

    -- where no record stands whole, the last line
    stop_last : p ≤ length s → (stop : Stop) → front_at s p ≡ Err stop → Gives a s (Cursor.Record i p) (stop_line p stop ∷ []) Cursor.End
    stop_last inside stop e =
        let digits = decimal_long 4 p (omega arith) in
        let row = decimal_long 1 (stop_tells stop).carried (omega (arith, ap (λ (z : Stop). (stop_tells z).carried) (stop_is (front_at s) p stop e), stop_carries s p)) in
        then (Cursor.Record i p) (stop_line p stop) [] Cursor.End Cursor.End (line_here ∙ ap (by_front _ _) e) (goes_here ∙ ap (by_front _ _) e)
        (omega (arith, stop_long 4 1 p stop digits row)) (ended Cursor.End)

  module _ (bytes : Bytes s) where
    -- the lines of a run of k records at the most, and its last line
    abbrev lines : ℕ → ℕ → ℕ → List (List ℕ)
    lines k i p =
        let end = end_in k (front_at s) p in
        record_lines a s i (offsets_in k (front_at s) p) ++ (stop_line end.offset end.stop ∷ [])

    -- where the run stops at once
    none : (k i p : ℕ) → i ≤ p → p ≤ length s → (stop : Stop) → front_at s p ≡ Err stop → Gives a s (Cursor.Record i p) (lines k i p) Cursor.End
    unfolding record_lines
    none k i p before inside stop e =
        rw (offset_none (front_at s) p stop e k, stop_here (front_at s) p stop e k, stop_is (front_at s) p stop e) (stop_last i p before inside stop e)

    -- they are given where that bound doesn't cut the run
    run : (k i p : ℕ) → i ≤ p → p ≤ length s → length s < p + (16 + 16 * k) → Gives a s (Cursor.Record i p) (lines k i p) Cursor.End
    unfolding record_lines
    run zero i p before inside l =
        elim (standing (front_at s) p) [
          | takes n e ↦ absurd (omega (arith, front_within s p n e))
          | stops stop e ↦ none zero i p before inside stop e
        ]
    run (suc k) i p before inside l =
        elim (standing (front_at s) p) [
          | stops stop e ↦ none (suc k) i p before inside stop e
          | takes n e ↦
              let f = front_within s p n e in
              rw (offset_next (front_at s) p n e k, stop_next (front_at s) p n e k)
              (then (Cursor.Record i p) (record_line a i p (drop p s)) (lines k (suc i) (p + n)) (Cursor.Record (suc i) (p + n)) Cursor.End
              (line_here i p before ∙ ap (by_front _ _) e) (goes_here i p before ∙ ap (by_front _ _) e)
              (whole_long a i p n (drop p s) (drop_bytes p s bytes) (front_says s p n e) before (omega (arith, length-drop p s)))
              (run k (suc i) (p + n) (omega arith) (omega arith) (omega arith)))
        ]

    -- the age, the run of all the bytes, and its last line
    listed : Gives a s Cursor.Start (listing_of a s) Cursor.End
    unfolding listing_of line_at after
    listed =
        let digits = decimal_long 1 a (omega (arith, (age_bounds a known).1)) in
        rw (le-ltb 65536 (length s) small)
        (then Cursor.Start (age_line a) _ (Cursor.Record 0 0) Cursor.End refl refl
        (omega (arith, age_long 1 a digits)) (run (length s / 16) 0 0 (omega arith) (omega arith) (omega arith)))

-- the calls from the start on give the whole listing
pub whole_listing : WholeListing
whole_listing a s known small bytes olds r e = let l = listed a s known small bytes in (l.calls olds r e, l.leads olds r e)

-- too much input has two lines, whatever its bytes are
pub too_much_listed : (a : ℕ) (s : List ℕ) → 65536 < length s → listing_of a s ≡ age_line a ∷ stop_line 0 (Stop.Refused Refusal.TooMuchInput) ∷ []
unfolding listing_of
too_much_listed a s h = rw (lt-ltb 65536 (length s) h)
