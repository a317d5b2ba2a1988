-- A record's line, and what is easy to get wrong in it, by computation. Assumes nothing.
use Prim.Native.Nat.{ℕ}
use mathlib.Core.Path.{◌≡◌, refl}
use mathlib.Core.List.{List, [], ◌∷◌, ◌++◌}
use lib.ListN.{replicate}
use Rattle.answers.specs.declared.Refusal.{Refusal}
use Rattle.buffer.specs.Ascii.{ascii}
use Rattle.buffer.specs.Decimal.{digits, decimal}
use Rattle.buffer.specs.Written.{written, wrote, refused}
use Rattle.subtag.specs.Utf8.{ok_at, front_of}
use Rattle.subtag.specs.Replacements.{ill_formed_by, replacements}
use Rattle.subtag.specs.Subtag.{replaced_by, replaced, keep, drop_nuls, subtag_of}
use Rattle.language.specs.Language.{unpacked}
use Rattle.locale.specs.Locale.{legacy_words, new_words, locale_words}
use Rattle.locale.specs.Subtags.{locale_subtags}
use Rattle.places.specs.Say.{say, dash_after, say_all}
use Rattle.places.specs.Places.{places_of, text_of}
use Rattle.record.specs.Ages.{is_age}
use Rattle.reading.specs.Cut.{lacking}
use Rattle.reading.specs.Reading.{reads, field_by, record_by, aged, if_whole, if_age}
use Rattle.mark.specs.Word.{letters_of}
use Rattle.marking.specs.Marks.{mark_between, word_in, letters_in, held_back}
use Rattle.record_line.specs.RecordLine.{visible, escaped, escaped_all, shown_words, newline, laid_out, record_line, record_line_of}

-- language FF FF: a text of nine bytes past 0x7E
abbrev strange : List ℕ
strange = replicate 8 0 ++ (0xFF ∷ 0xFF ∷ replicate 6 0)

pub examples :
    -- bytes that can't be seen, in capital digits
    (record_line 64 0 0 strange ≡ ascii "0 0 0 BFBAAAAAAAAAAA %EF%BF%BD%EF%BF%BD%EF%BF%BD 3" ++ newline)
    × (escaped_all (ascii "a b%~" ++ (0x7F ∷ 0x00 ∷ [])) ≡ ascii "a%20b%25~%7F%00")
    -- 3 before 1; 1, 2, and 5 with a buffer of a byte too few; with a byte more than it takes, that byte stays
    × (record_line_of 33 0 0 [] (7 ∷ []) ≡ refused Refusal.NotAnAge (7 ∷ []))
    × (record_line_of 64 0 0 (replicate 15 0) (7 ∷ []) ≡ refused Refusal.TooFewBytes (7 ∷ []))
    × (record_line_of 64 0 0 (17 ∷ replicate 15 0) (7 ∷ []) ≡ refused Refusal.UndecodedCut (7 ∷ []))
    × (record_line_of 64 1 16 (replicate 16 0) (replicate 26 7) ≡ refused Refusal.ShortBuffer (replicate 26 7))
    × (record_line_of 64 1 16 (replicate 16 0) (replicate 28 7) ≡ wrote (ascii "1 16 0 BBBAAAAAAAAAAA %- 0" ++ newline) (replicate 28 7))
unfolding laid_out shown_words escaped_all escaped visible written letters_in letters_of word_in mark_between held_back is_age if_age if_whole lacking aged record_by
    field_by reads text_of places_of say_all say dash_after locale_words new_words legacy_words unpacked subtag_of drop_nuls keep replaced
    replaced_by replacements ill_formed_by locale_subtags front_of ok_at decimal digits
examples = (refl, refl, refl, refl, refl, refl, refl)
