-- How long the line of a record is at the most. Assumes nothing.
use Prim.Native.Nat.{ℕ, suc, ◌+◌, ◌≤◌, ◌<◌, min}
use mathlib.Core.Path.{◌≡◌}
use mathlib.Core.Bool.{Bool}
use mathlib.Core.List.{List}
use native.Mathlib.Omega.{arith}
use lib.ListN.{length, length-append}
use Rattle.laws.proofs.Choice.{chosen}
use Rattle.buffer.specs.Decimal.{decimal}
use Rattle.buffer.proofs.Digits.{decimal_long}
use Rattle.record.specs.Table.{Bytes}
use Rattle.reading.specs.Reading.{record_by, aged, size_of, taken}
use Rattle.reading.specs.ReadTo.{read_to}
use Rattle.marking.specs.Marks.{late_bytes, held_back, letters_in, marks_of}
use Rattle.marking.proofs.Marking.{marks_length}
use Rattle.places.specs.Places.{text_of}
use Rattle.locale.specs.Subtags.{text_replacements}
use Rattle.reading.proofs.Ranges.{field_below}
use Rattle.text.proofs.Ranges.{read_long, read_most, aged_long, aged_most}
use Rattle.record_line.specs.RecordLine.{shown_unless, replacements_unless, laid_out, record_line}
use Rattle.record_line.specs.LineIn.{line_in}
use Rattle.record_line.proofs.Escapes.{shown_long}

-- what is shown of a text
text_shown : (held : Bool) (w : List ℕ) → length w ≤ 344 → length (shown_unless held w) ≤ 1032
text_shown held w h =
    chosen (λ (v : List ℕ). length v ≤ 1032) held (omega arith) (omega (arith, shown_long w 344 h (omega arith)))

-- two digits are enough for its replacements
count_shown : (held : Bool) (n : ℕ) → n ≤ 24 → length (decimal (replacements_unless held n)) ≤ 2
count_shown held n h =
    chosen (λ (m : ℕ). length (decimal m) ≤ 2) held (omega (arith, decimal_long 1 0 (omega arith))) (omega (arith, decimal_long 1 n (omega arith)))

-- a line, which has fourteen marks, five spaces and a newline beside its numbers and its text
pub laid_length : (i p size : ℕ) (marks text : List ℕ) (n : ℕ) → length marks ≡ 14
    → length (laid_out i p size marks text n)
    ≡ length (decimal i) + length (decimal p) + length (decimal size) + length (decimal n) + 20 + length text
unfolding laid_out
laid_length i p size marks text n m = simp length-append (omega arith)

-- so with an index, an offset and a size of d + 1, e + 1 and f + 1 digits at the most
laid_long : (d e f i p size : ℕ) (marks text : List ℕ) (n : ℕ) → length marks ≡ 14 → length text ≤ 1032 → length (decimal n) ≤ 2
    → length (decimal i) ≤ suc d → length (decimal p) ≤ suc e → length (decimal size) ≤ suc f → length (laid_out i p size marks text n) ≤ d + e + f + 1057
laid_long d e f i p size marks text n m t k x y z = omega (arith, laid_length i p size marks text n m)

pub record_long : (d e f a i p : ℕ) (s : List ℕ) → Bytes s → length (decimal i) ≤ suc d → length (decimal p) ≤ suc e → length (decimal (size_of s)) ≤ suc f
    → length (record_line a i p s) ≤ d + e + f + 1057
record_long d e f a i p s h =
    laid_long d e f i p (size_of s) (marks_of a s) _ _ (marks_length a (taken s) s) (text_shown (held_back a s) (text_of (aged a s)) (aged_long a s h))
    (count_shown (held_back a s) (text_replacements (aged a s)) (aged_most a s h))

-- no line is longer than 1,104 bytes, whatever the index and the offset
pub any_long : (a t i p : ℕ) (s : List ℕ) → Bytes s → i < 18446744073709551616 → p < 18446744073709551616 → length (line_in a t i p s) ≤ 1104
unfolding record_by
any_long a t i p s h k l =
    let r = read_to (min t a) s in
    let size : r.size < 4294967296 = field_below _ s 0 h in
    laid_long 19 19 9 i p r.size (letters_in a t s) _ _ (marks_length a t s) (text_shown (late_bytes s t a) (text_of r) (read_long _ s h))
    (count_shown (late_bytes s t a) (text_replacements r) (read_most _ s h))
    (decimal_long 19 i (omega arith)) (decimal_long 19 p (omega arith)) (decimal_long 9 r.size (omega arith))
