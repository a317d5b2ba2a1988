-- 01's listing, and what is easy to get wrong in a line, by computation. Assumes nothing.
use Prim.Native.Nat.{ℕ, ◌<◌}
use mathlib.Core.Path.{◌≡◌, refl}
use mathlib.Core.List.{List, [], ◌∷◌, ◌++◌}
use lib.ListN.{length, replicate}
use Rattle.answers.specs.declared.Refusal.{Refusal}
use Rattle.buffer.specs.Ascii.{ascii}
use Rattle.buffer.specs.Decimal.{digits, decimal}
use Rattle.buffer.specs.Written.{written, wrote}
use Rattle.subtag.specs.Utf8.{ok_at, front_of}
use Rattle.subtag.specs.Replacements.{ill_formed_by, replacements}
use Rattle.subtag.specs.Subtag.{replaced_by, replaced, keep, drop_nuls, subtag_of}
use Rattle.language.specs.Language.{unpacked}
use Rattle.locale.specs.Locale.{legacy_words, new_words, locale_words}
use Rattle.locale.specs.Subtags.{locale_subtags}
use Rattle.places.specs.Say.{say, dash_after, say_all}
use Rattle.places.specs.Places.{places_of, text_of}
use Rattle.record.specs.Ages.{is_age, default_age}
use Rattle.reading.specs.Cut.{lacking}
use Rattle.reading.specs.Reading.{reads, field_by, record_by, aged, if_whole, if_age}
use Rattle.mark.specs.Word.{letters_of}
use Rattle.marking.specs.Marks.{mark_between, word_in, letters_in, held_back}
use Rattle.runs.specs.Fronts.{offsets_in, stop_in}
use Rattle.runs.specs.Runs.{front_at}
use Rattle.record_line.specs.RecordLine.{visible, escaped, escaped_all, shown_words, newline, laid_out}
use Rattle.lines.specs.declared.Cursor.{Cursor}
use Rattle.lines.specs.Lines.{age_line, reason_words, stop_line, record_lines, line_at, after, line_refused, line_of, listing_of}
use Rattle.lines.proofs.Listing.{too_much_listed}

-- 01's bytes: a record of 16, sixteen zeros, and three bytes more
abbrev given : List ℕ
given =
    0x10 ∷ 0x00 ∷ 0x00 ∷ 0x00 ∷ 0x36 ∷ 0x01 ∷ 0x00 ∷ 0x00 ∷ 0x65 ∷ 0x6E ∷ 0x55 ∷ 0x53 ∷ 0x01 ∷ 0x00 ∷ 0xF0 ∷ 0x00 ∷ []
    ++ replicate 16 0 ++ (0x01 ∷ 0x02 ∷ 0x03 ∷ [])

-- size 65, byte 64 is 1
abbrev held : List ℕ
held = 65 ∷ replicate 63 0 ++ (1 ∷ [])

pub examples :
    -- 01's four lines
    (listing_of 64 given
    ≡ (ascii "age 64" ++ newline)
    ∷ (ascii "0 0 16 FFFAAAAAAAAAAA mcc310-en-rUS-port-hdpi 0" ++ newline)
    ∷ (ascii "1 16 0 BBBAAAAAAAAAAA %- 0" ++ newline)
    ∷ (ascii "stop 32 1" ++ newline)
    ∷ [])
    -- and those that 02, K7 has for them, where no age is given: U in the last three marks, and the same texts with their counts
    × (listing_of default_age given
    ≡ (ascii "age 52" ++ newline)
    ∷ (ascii "0 0 16 FFFAAAAAAAAUUU mcc310-en-rUS-port-hdpi 0" ++ newline)
    ∷ (ascii "1 16 0 BBBAAAAAAAAUUU %- 0" ++ newline)
    ∷ (ascii "stop 32 1" ++ newline)
    ∷ [])
    -- no bytes: the run stops at its exact end with 0
    × (listing_of 64 [] ≡ (ascii "age 64" ++ newline) ∷ (ascii "stop 0 0" ++ newline) ∷ [])
    -- a record that is cut: inside field 10, also for a reader that doesn't know that field, or behind all fields
    × (listing_of 36 (64 ∷ replicate 39 0) ≡ (ascii "age 36" ++ newline) ∷ (ascii "stop 0 2 10" ++ newline) ∷ [])
    × (listing_of 64 (65 ∷ replicate 63 0) ≡ (ascii "age 64" ++ newline) ∷ (ascii "stop 0 8" ++ newline) ∷ [])
    -- a held-back record is counted, and the run goes on
    × (listing_of 64 (held ++ replicate 16 0)
    ≡ (ascii "age 64" ++ newline)
    ∷ (ascii "0 0 65 BBBBBBBBBBBBBB %! 0" ++ newline)
    ∷ (ascii "1 65 0 BBBAAAAAAAAAAA %- 0" ++ newline)
    ∷ (ascii "stop 81 0" ++ newline)
    ∷ [])
    -- 3 before 5; a call with a short buffer leaves its bytes and gives back its cursor, and one with room goes on
    × (line_of 33 given Cursor.Start [] ≡ line_refused Refusal.NotAnAge Cursor.Start [])
    × (line_of 64 given (Cursor.Record 1 16) (replicate 26 7) ≡ line_refused Refusal.ShortBuffer (Cursor.Record 1 16) (replicate 26 7))
    × (line_of 64 given (Cursor.Record 1 16) (replicate 28 7)
    ≡ record { does = wrote (ascii "1 16 0 BBBAAAAAAAAAAA %- 0" ++ newline) (replicate 28 7); goes = Cursor.Record 2 32 })
unfolding listing_of record_lines offsets_in stop_in front_at line_of line_at after written age_line stop_line reason_words laid_out shown_words
    escaped_all escaped visible letters_in letters_of word_in mark_between held_back is_age if_age if_whole lacking aged record_by field_by reads text_of places_of
    say_all say dash_after locale_words new_words legacy_words unpacked subtag_of drop_nuls keep replaced replaced_by front_of ok_at decimal
    digits replacements ill_formed_by locale_subtags
examples = (refl, refl, refl, refl, refl, refl, refl, refl, refl)

-- too much input where no age is given
pub too_much_default : (s : List ℕ) → 65536 < length s → listing_of default_age s ≡ (ascii "age 52" ++ newline) ∷ (ascii "stop 0 7" ++ newline) ∷ []
unfolding age_line stop_line reason_words decimal digits
too_much_default s h = too_much_listed default_age s h
