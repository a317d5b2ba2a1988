-- A record whose text is the longest, by computation. Assumes nothing.
use mathlib.Core.Path.{◌≡◌, refl}
use mathlib.Core.Bool.{false}
use lib.ListN.{length, replicate}
use Rattle.buffer.specs.Decimal.{digits, decimal}
use Rattle.subtag.specs.Utf8.{ok_at, front_of}
use Rattle.subtag.specs.Replacements.{ill_formed_by, replacements}
use Rattle.subtag.specs.Subtag.{replaced_by, replaced, keep, drop_nuls, subtag_of}
use Rattle.record.specs.declared.ResTableConfig.{ResTableConfig}
use Rattle.language.specs.Language.{unpacked}
use Rattle.locale.specs.Locale.{legacy_words, new_words, locale_words}
use Rattle.locale.specs.Subtags.{locale_subtags, text_replacements}
use Rattle.places.specs.Say.{say, dash_after, say_all}
use Rattle.places.specs.Places.{places_of, text_of}

-- a record whose text has 344 bytes
abbrev pub longest : ResTableConfig
longest =
    record {
      size = 64;
      imsi = 0xffffffff;
      locale = 0x8001ffff;
      screen_type = 0xfffdffff;
      generic_purpose_field = 0x030dffff;
      screen_size = 0xffffffff;
      version = 0xffffffff;
      screen_config = 0xffff3f52;
      screen_size_dp = 0xffffffff;
      locale_script = replicate 4 255;
      locale_variant = replicate 8 255;
      screen_config_2 = 0x00000901;
      locale_script_was_computed = false;
      locale_numbering_system = replicate 8 255;
      end_padding = replicate 3 0;
    }

pub longest_is : length (text_of longest) ≡ 344
unfolding text_of places_of say_all say dash_after locale_words new_words legacy_words unpacked subtag_of drop_nuls keep replaced replaced_by front_of ok_at decimal digits
longest_is = refl

-- it has the most replacements, too: 3 in the language, 1 in the region, 4 in the script, 8 and 8
pub longest_count : text_replacements longest ≡ 24
unfolding locale_subtags unpacked replacements ill_formed_by front_of ok_at
longest_count = refl
