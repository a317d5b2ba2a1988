-- When a call for a line is refused, and with which number; a refused line isn't lost. Assumes nothing.
use Prim.Native.Nat.{ℕ, ◌≤◌, ◌<◌}
use mathlib.Core.Path.{◌≡◌, refl, sym, ◌∙◌}
use mathlib.Core.Bool.{true}
use mathlib.Core.List.{List, [], ◌∷◌}
use native.Mathlib.Omega.{arith}
use native.Mathlib.Decide.{dec_le}
use lib.ListN.{length}
use borrow.Author.Tests.{le-leb, lt-leb, le-ltb, lt-ltb}
use Rattle.answers.specs.declared.Refusal.{Refusal}
use Rattle.answers.specs.Tells.{success}
use Rattle.answers.proofs.Exactly.{Goes, one_more, row_exactly, row_stays}
use Rattle.buffer.specs.Demand1.{shorter_than}
use Rattle.buffer.specs.Written.{wrote}
use Rattle.buffer.proofs.Writing.{written_fits, written_short}
use Rattle.record.specs.Ages.{is_age}
use Rattle.reading.specs.Demand1.{not_an_age}
use Rattle.reading.proofs.Exactly.{age_row}
use Rattle.lines.specs.declared.Cursor.{Cursor}
use Rattle.lines.specs.Lines.{LineOutcome, line_at, after, line_refused, line_given, line_written, line_of}
use Rattle.lines.specs.Demand1.{too_much_input, LineRefuses}
use Rattle.lines.proofs.Cases.{at_age}

module _ (a : ℕ) (s : List ℕ) (c : Cursor) (old : List ℕ) where
  -- at most 65,536 bytes, one of the twelve ages, and room: the line is given
  pub line_given_lem : length s ≤ 65536 → is_age a ≡ true → length (line_at a s c) ≤ length old → line_of a s c old ≡ line_given a s c old
  line_given_lem h k fits = at_age a s c old h (sym k) ∙ rw (written_fits (line_at a s c) old fits, le-leb (length (line_at a s c)) (length old) fits)

-- a line that is written goes by 5
written_line : (w : List ℕ) (c next : Cursor) (old : List ℕ)
    → Goes (shorter_than (length w) old ∷ []) (λ why. line_refused why c old) (record { does = wrote w old; goes = next }) (line_written w c next old)
written_line w c next old =
    elim (dec_le (length w) (length old)) [
      | yes h ↦ record { by = rw (written_fits w old h, le-leb (length w) (length old) h, le-ltb (length old) (length w) h) }
      | no h ↦ let l : length old < length w = omega arith in
          record { by = rw (written_short w old l, lt-leb (length w) (length old) l, lt-ltb (length old) (length w) l) }
    ]

module _ (a : ℕ) (s : List ℕ) (c : Cursor) (old : List ℕ) where
  -- a call goes by 7, 3 and 5
  line_row : Goes (too_much_input s ∷ not_an_age a ∷ shorter_than (length (line_at a s c)) old ∷ []) (λ why. line_refused why c old) (line_given a s c old) (line_of a s c old)
  unfolding line_of
  line_row = one_more (too_much_input s) (age_row a (written_line (line_at a s c) c (after s c) old))

  -- what holds of every refused line holds of the call, unless it succeeds
  line_stays : (P : LineOutcome → Type 0) → ((why : Refusal) → P (line_refused why c old)) → ((line_of a s c old).does.tells.number ≡ 0 → ⊥) → P (line_of a s c old)
  line_stays = row_stays (λ (o : LineOutcome). o.does.tells) (λ why. line_refused why c old) (line_given a s c old) (λ why. refl) refl line_row

  -- `line`: 7, 3, 5
  pub line_exactly : LineRefuses a s c old
  line_exactly =
      record {
        numbers =
            record {
              exactly = row_exactly (λ (o : LineOutcome). o.does.tells) (λ why. line_refused why c old) (line_given a s c old) (λ why. refl) refl line_row;
              untouched = line_stays (λ o. (o.does.tells.amount ≡ 0) × (o.does.leaves ≡ old)) (λ why. (refl, refl));
            };
        stays = line_stays (λ o. o.goes ≡ c) (λ why. refl);
      }

-- behind the last line there is none
pub no_more : (a : ℕ) (s old : List ℕ) → length s ≤ 65536 → is_age a ≡ true → line_of a s Cursor.End old ≡ record { does = record { tells = success 0; leaves = old }; goes = Cursor.End }
unfolding line_at after
no_more a s old h k = line_given_lem a s Cursor.End old h k (omega arith)
