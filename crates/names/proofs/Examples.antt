-- Corners of 02's K5, computed. Assumes nothing.
use Prim.Native.Nat.{ℕ}
use Prim.Native.String.{String}
use mathlib.Core.Path.{◌≡◌, refl}
use mathlib.Core.List.{List, [], ◌∷◌}
use Rattle.buffer.specs.Ascii.{ascii}
use Rattle.grammar.specs.Rows.{rows, kind_rows, word_rows, word_row}
use Rattle.compare.specs.Compare.{same, begins_with, up_to}
use Rattle.numbers.specs.Numbers.{number_in, further_all, further}
use Rattle.letters.specs.Letters.{language_value, region_value}
use Rattle.forms.specs.Values.{number_value, number_before, density_value, pair_value, minor_value}
use Rattle.parts.specs.Recognised.{value_in, first_of, recognised}
use Rattle.names.specs.Reading.{parts_of, Read, may, step, read_parts, read_name}

-- where reading was refused; 1000 where it went to the end
abbrev stop : Read → ℕ
stop (Read.so_far next vs) = 1000
stop (Read.refused o) = o

-- where each of some names is refused
abbrev stops : List String → List ℕ
stops [] = []
stops (s ∷ names) = stop (read_name (ascii s)) ∷ stops names

-- accepted: the empty name, regions, the UI type, sides and versions with one 0
accepted : stops ("" ∷ "en" ∷ "en-rUS-port-hdpi" ∷ "en-r001" ∷ "car" ∷ "car-v0.1" ∷ "0x1" ∷ "mcc65535" ∷ "161dpi" ∷ [])
    ≡ 1000 ∷ 1000 ∷ 1000 ∷ 1000 ∷ 1000 ∷ 1000 ∷ 1000 ∷ 1000 ∷ 1000 ∷ []
unfolding read_name read_parts step may parts_of recognised first_of value_in rows kind_rows word_rows word_row number_value begins_with number_before number_in further_all further same density_value pair_value up_to minor_value language_value region_value
accepted = refl

-- an empty part ends no name but the empty one
empty_parts : stops ("land-" ∷ "land--night" ∷ "-en" ∷ "-" ∷ "en-" ∷ "en--port" ∷ []) ≡ 5 ∷ 5 ∷ 1 ∷ 1 ∷ 3 ∷ 3 ∷ []
unfolding read_name read_parts step may parts_of recognised first_of value_in rows kind_rows word_rows word_row number_value begins_with number_before number_in further_all further same density_value pair_value up_to minor_value language_value region_value
empty_parts = refl

-- a leading zero, too large a number, a density that has a word, sides and versions of 0, a slot twice, slots out of order, a region alone, a
-- script
refused : stops ("mcc01" ∷ "mcc0" ∷ "mcc65536" ∷ "en-160dpi" ∷ "0x0" ∷ "v0" ∷ "en-fr" ∷ "port-en" ∷ "rUS" ∷ "en-port-rUS" ∷ "b+sr+Latn" ∷ [])
    ≡ 0 ∷ 0 ∷ 0 ∷ 3 ∷ 0 ∷ 0 ∷ 3 ∷ 5 ∷ 0 ∷ 8 ∷ 0 ∷ []
unfolding read_name read_parts step may parts_of recognised first_of value_in rows kind_rows word_rows word_row number_value begins_with number_before number_in further_all further same density_value pair_value up_to minor_value language_value region_value
refused = refl
