-- 02, K5: the record that the values of a name's slots make: each value stands in the bits that its accessor reads. Assumes nothing.
use Rattle.std.specs.Prelude.{ℕ, ◌+◌, ◌*◌, ◌%◌, false, List, get_or, replicate}
use Rattle.record.specs.declared.ResTableConfig.{ResTableConfig}
use Rattle.grammar.specs.Slots as slot

-- the value of slot s
abbrev pub at : List ℕ → ℕ → ℕ
at vs s = get_or vs s 0

-- a word: the lower 32 bits
abbrev pub word : ℕ → ℕ
word n = n % 4294967296

-- the record, of size 64, with zero in everything that isn't named
unfoldable pub made : List ℕ → ResTableConfig
made vs =
    record {
      size = 64;
      imsi = word (at vs slot.mcc + at vs slot.mnc * 65536);
      locale = word (at vs slot.language + at vs slot.region * 65536);
      screen_type = word (at vs slot.orientation + at vs slot.touchscreen * 256 + at vs slot.density * 65536);
      generic_purpose_field = word (at vs slot.keyboard + at vs slot.navigation * 256 + (at vs slot.keys_hidden + at vs slot.nav_hidden) * 65536 + at vs slot.gender * 16777216);
      screen_size = word (at vs slot.sides);
      version = word (at vs slot.version);
      screen_config = word ((at vs slot.layout_dir + at vs slot.screen_size + at vs slot.screen_long) + (at vs slot.ui_type + at vs slot.night) * 256 + at vs slot.smallest_width * 65536);
      screen_size_dp = word (at vs slot.width + at vs slot.height * 65536);
      locale_script = replicate 4 0;
      locale_variant = replicate 8 0;
      screen_config_2 = word (at vs slot.screen_round + (at vs slot.gamut + at vs slot.hdr) * 256);
      locale_script_was_computed = false;
      locale_numbering_system = replicate 8 0;
      end_padding = replicate 3 0;
    }
