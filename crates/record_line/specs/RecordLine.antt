-- 01, "The listing", and 02, K1: the line of a record, how it shows a text, and a call for it. Assumes nothing.
use Rattle.std.specs.Prelude.{ℕ, ◌/◌, ◌%◌, List, [], ◌∷◌, ◌++◌, Bool, cond, not, ◌&&◌, leb, eqb, get_or}
use Rattle.buffer.specs.Ascii.{ascii}
use Rattle.buffer.specs.Decimal.{decimal}
use Rattle.buffer.specs.Written.{Outcome, written, refused}
use Rattle.reading.specs.Reading.{aged, size_of, if_whole, if_age}
use Rattle.mark.specs.Word.{letter}
use Rattle.marking.specs.Marks.{held_back, marks_of}
use Rattle.locale.specs.Subtags.{text_replacements}
use Rattle.places.specs.Places.{text_of}

-- the capital hexadecimal digits
abbrev pub hex_digits : List ℕ
hex_digits = ascii "0123456789ABCDEF"

-- the digit of a number below 16
abbrev pub hex_digit : ℕ → ℕ
hex_digit n = get_or hex_digits n 0

-- whether a text byte stands in a line as it is: from 0x21 to 0x7E, and not '%'
unfoldable pub visible : ℕ → Bool
visible b = leb 0x21 b && leb b 0x7E && not (eqb b (letter "%"))

-- a text byte as a line shows it; one that isn't visible is '%' and two capital hexadecimal digits
unfoldable pub escaped : ℕ → List ℕ
escaped b = cond (visible b) (b ∷ []) (letter "%" ∷ hex_digit (b / 16) ∷ hex_digit (b % 16) ∷ [])

-- the bytes of a text one after the other
unfoldable pub escaped_all : List ℕ → List ℕ
escaped_all [] = []
escaped_all (b ∷ w) = escaped b ++ escaped_all w

-- a text as a line shows it; empty text is "%-"
unfoldable pub shown_words : List ℕ → List ℕ
shown_words [] = ascii "%-"
shown_words (b ∷ w) = escaped_all (b ∷ w)

-- a text that isn't held back, as a line shows it; a held-back one is "%!"
abbrev pub shown_unless : Bool → List ℕ → List ℕ
shown_unless held w = cond held (ascii "%!") (shown_words w)

-- the replacements in a text that isn't held back; a held-back one shows none
abbrev pub replacements_unless : Bool → ℕ → ℕ
replacements_unless held n = cond held 0 n

-- each line is ended by one newline
abbrev pub newline : List ℕ
newline = 10 ∷ []

-- what stands between the parts of a line
abbrev pub space : List ℕ
space = ascii " "

-- a record's line: index, offset, declared size, marks in field order, text, number of replacements
unfoldable pub laid_out : ℕ → ℕ → ℕ → List ℕ → List ℕ → ℕ → List ℕ
laid_out i p size marks text n =
    decimal i ++ space ++ decimal p ++ space ++ decimal size ++ space ++ marks ++ space ++ text ++ space ++ decimal n ++ newline

-- the line of the record at the front of s, for a reader of age a
abbrev pub record_line : ℕ → ℕ → ℕ → List ℕ → List ℕ
record_line a i p s =
    laid_out i p (size_of s) (marks_of a s) (shown_unless (held_back a s) (text_of (aged a s))) (replacements_unless (held_back a s) (text_replacements (aged a s)))

-- a call for that line: 3, 1, 2 or 8, then 5
abbrev pub record_line_of : ℕ → ℕ → ℕ → List ℕ → List ℕ → Outcome
record_line_of a i p s old =
    if_age a (λ why. refused why old) (if_whole s (λ why. refused why old) (written (record_line a i p s) old))
