-- What a line shows of a whole record, by what is read of its bytes. Assumes nothing.
use Prim.Native.Nat.{ℕ, ◌+◌, ◌-◌, ◌≤◌, ◌<◌, min}
use mathlib.Core.Path.{◌≡◌, refl, sym, ap, ◌∙◌}
use mathlib.Core.Bool.{Bool, true, false, cond}
use mathlib.Core.List.{List, [], ◌++◌, append_assoc}
use native.Mathlib.Omega.{arith}
use native.Mathlib.Decide.{dec_le}
use lib.Dec.{leb}
use lib.ListN.{length, take}
use borrow.Author.Tests.{le-leb, lt-leb}
use Rattle.laws.proofs.Choice.{chosen}
use Rattle.answers.specs.Tells.{success}
use Rattle.buffer.specs.Decimal.{decimal}
use Rattle.buffer.specs.Written.{Outcome, written}
use Rattle.buffer.proofs.Putting.{front_take}
use Rattle.subtag.specs.declared.Copied.{Copied}
use Rattle.subtag.specs.Copies.{Copies}
use Rattle.record.specs.declared.ResTableConfig.{ResTableConfig}
use Rattle.record.specs.Table.{Bytes}
use Rattle.record.specs.Ages.{is_age}
use Rattle.record.proofs.Twelve.{age_bounds}
use Rattle.reading.specs.ReadTo.{read_to}
use Rattle.reading.specs.Reading.{take_of, reads, field_by, record_by, aged, size_of, taken}
use Rattle.reading.proofs.Limits.{read_aged}
use Rattle.reading.proofs.Whole.{took_says}
use Rattle.marking.specs.Marks.{held_back, late_bytes, letters_in}
use Rattle.marking.proofs.Answering.{gives}
use Rattle.marking.proofs.Marking.{marks_length}
use Rattle.locale.specs.Subtags.{text_replacements}
use Rattle.places.specs.Places.{text_of}
use Rattle.text.proofs.Ranges.{read_long}
use Rattle.record_line.specs.RecordLine.{shown_unless, replacements_unless, laid_out, record_line, record_line_of}
use Rattle.record_line.specs.LineIn.{line_in}
use Rattle.record_line.proofs.Bounds.{laid_length}

-- a number between words, behind a text: in a row with it
pub in_row : (x a b c : List ℕ) → x ++ (a ++ b ++ c) ≡ x ++ a ++ b ++ c
in_row x a b c = sym (append_assoc x (a ++ b) c) ∙ ap (λ (l : List ℕ). l ++ c) (sym (append_assoc x a b))

-- m bytes fit into the room that k others leave where all of them fit
pub behind : (k m n : ℕ) → k ≤ n → leb m (n - k) ≡ leb (k + m) n
behind k m n h =
    elim (dec_le m (n - k)) [
      | yes l ↦ let g : k + m ≤ n = omega arith in rw (le-leb m (n - k) l, le-leb (k + m) n g)
      | no l ↦ let f : n - k < m = omega arith in let g : n < k + m = omega arith in rw (lt-leb m (n - k) f, lt-leb (k + m) n g)
    ]

-- what is shown of a text that is put only where it isn't held back
kept : (held : Bool) (w : List ℕ) → shown_unless held (cond held [] w) ≡ shown_unless held w
kept true w = refl
kept false w = refl

-- a row that shows what is read of t bytes, with the text that an own buffer holds, is their line
module _ (a t i p : ℕ) (s : List ℕ) {limit : ℕ} {r : ResTableConfig} {held : Bool} (by : limit ≡ min t a) (read : r ≡ read_to limit s)
    (looked : held ≡ late_bytes s t a) where
  pub row_is : {own new : List ℕ} {copied : Copied} → Bytes s → 344 ≤ length own
      → Copies own 0 (cond held [] (text_of r)) (replacements_unless held (text_replacements r)) new copied
      → laid_out i p r.size (letters_in a t s) (shown_unless held (take copied.at new)) copied.replacements ≡ line_in a t i p s
  row_is {own} b room c =
      let long : length (text_of r) ≤ 344 = rw read (read_long _ s b) in
      let fits : length (cond held [] (text_of r)) ≤ length own = chosen (λ (w : List ℕ). length w ≤ length own) held (omega arith) (omega arith) in
      rw (front_take c.puts fits, c.counts, kept held (text_of r), looked, read, by)

  -- and is as long
  pub row-length : {own new : List ℕ} {copied : Copied} → Bytes s → 344 ≤ length own
      → Copies own 0 (cond held [] (text_of r)) (replacements_unless held (text_replacements r)) new copied
      → length (decimal i) + length (decimal p) + length (decimal r.size) + length (decimal copied.replacements) + 20
      + length (shown_unless held (take copied.at new))
      ≡ length (line_in a t i p s)
  row-length {copied = copied} b room c = sym (laid_length i p r.size _ _ copied.replacements (marks_length a t s)) ∙ ap length (row_is b room c)

module _ (a : ℕ) (s : List ℕ) (known : true ≡ is_age a) where
  -- the size that a reader of an age reads is the declared one
  size_is : (aged a s).size ≡ size_of s
  unfolding aged record_by field_by reads
  size_is = let h : 4 ≤ a = omega (arith, (age_bounds a (sym known)).0) in rw (le-leb 4 a h)

  -- what is read of the t bytes of a whole record is its line
  pub line-is : (i p t : ℕ) → t ≡ taken s → taken s ≤ length s → line_in a t i p s ≡ record_line a i p s
  unfolding held_back
  line-is i p t e whole = rw (read_aged a t s e whole, size_is, e)

  -- so a call for the line comes to what its writing does
  pub line-written : (i p t : ℕ) (old : List ℕ) (o : Outcome) → success t ≡ take_of s → o ≡ written (line_in a t i p s) old → o ≡ record_line_of a i p s old
  line-written i p t old o e w =
      let h = took_says s t e in
      w ∙ ap (λ (l : List ℕ). written l old) (line-is i p t h.0 h.1) ∙ sym (gives a s _ _ known t e)
