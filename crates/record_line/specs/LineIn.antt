-- The line of a record for a caller who knows T already: no call of the face rests on it. Assumes nothing.
use Rattle.std.specs.Prelude.{ℕ, min, List}
use Rattle.reading.specs.ReadTo.{read_to}
use Rattle.marking.specs.Marks.{late_bytes, letters_in}
use Rattle.locale.specs.Subtags.{text_replacements}
use Rattle.places.specs.Places.{text_of}
use Rattle.record_line.specs.RecordLine.{laid_out, shown_unless, replacements_unless}

-- the line of a record of t bytes at the front of s, by what is read of them
abbrev pub line_in : ℕ → ℕ → ℕ → ℕ → List ℕ → List ℕ
line_in a t i p s =
    laid_out i p (read_to (min t a) s).size (letters_in a t s) (shown_unless (late_bytes s t a) (text_of (read_to (min t a) s)))
    (replacements_unless (late_bytes s t a) (text_replacements (read_to (min t a) s)))
