-- The twelve judged examples are as 01 asks, the second as 02 has it. Assumes nothing.
use mathlib.Core.Path.{◌≡◌, refl}
use mathlib.Core.List.{[], ◌∷◌, map}
use Rattle.buffer.specs.Decimal.{digits, decimal}
use Rattle.buffer.specs.Written.{written}
use Rattle.subtag.specs.Utf8.{ok_at, front_of}
use Rattle.subtag.specs.Subtag.{replaced_by, replaced, keep, drop_nuls, subtag_of}
use Rattle.record.specs.Ages.{is_age}
use Rattle.reading.specs.Cut.{lacking}
use Rattle.reading.specs.Reading.{reads, field_by, record_by, plain, aged, if_whole, if_age}
use Rattle.marking.specs.Marks.{held_back}
use Rattle.language.specs.Language.{unpacked}
use Rattle.locale.specs.Locale.{legacy_words, new_words, locale_words}
use Rattle.places.specs.Say.{say, dash_after, say_all}
use Rattle.places.specs.Places.{places_of, text_of}
use Rattle.sheet.specs.Sheet.{said_of, sheet_of}
use Rattle.judged.specs.Judged.{Example, twelve}

-- they are 01's, from 1 to 12
pub numbered : map (λ (e : Example). e.number) twelve ≡ 1 ∷ 2 ∷ 3 ∷ 4 ∷ 5 ∷ 6 ∷ 7 ∷ 8 ∷ 9 ∷ 10 ∷ 11 ∷ 12 ∷ []
numbered = refl

-- what the definitions give is what 01 asks, in every row
pub judged : map (λ (e : Example). e.given) twelve ≡ map (λ (e : Example). e.asked) twelve
unfolding reads field_by record_by plain aged if_whole lacking if_age is_age held_back written text_of places_of say_all say dash_after locale_words
    new_words legacy_words unpacked subtag_of drop_nuls keep replaced replaced_by front_of ok_at decimal digits said_of sheet_of
judged = refl
