-- A record that states a network code of zero (02, K6), by computation from its bytes. Assumes nothing.
use Prim.Native.Nat.{ℕ, ◌^◌}
use mathlib.Core.Path.{◌≡◌, refl}
use mathlib.Core.List.{List, [], ◌∷◌, ◌++◌}
use Rattle.buffer.specs.Ascii.{ascii}
use Rattle.buffer.specs.Decimal.{digits, decimal}
use Rattle.buffer.specs.Written.{written}
use Rattle.reading.specs.Reading.{reads, field_by, record_by, plain, if_whole, parse_of}
use Rattle.places.specs.Say.{say, dash_after, say_all}
use Rattle.places.specs.Places.{places_of, text_of}
use Rattle.sheet.specs.declared.NetworkCode.{NetworkCode}
use Rattle.sheet.specs.Sheet.{said_of, sheet_of}
use Rattle.judged.specs.Judged.{zeros, text}

-- size 16, imsi 00 00 FF FF, and nothing else
abbrev pub stated : List ℕ
stated = 16 ∷ (zeros 5 ++ (0xFF ∷ 0xFF ∷ zeros 8))

-- its text has the stored number, as 000 writes it
pub stated_text : text stated ≡ 0 ∷ ascii "mnc65535"
unfolding reads field_by record_by plain if_whole written text_of places_of say_all say dash_after decimal digits
stated_text = refl

-- its sheet has code 0
pub stated_code : (sheet_of (parse_of stated).gives).network_code ≡ NetworkCode.Code 0
unfolding reads field_by record_by plain if_whole sheet_of
stated_code = refl

-- and place 1 alone is said
pub stated_said : (sheet_of (parse_of stated).gives).said ≡ 2 ^ 1
unfolding reads field_by record_by plain if_whole places_of said_of sheet_of
stated_said = refl
