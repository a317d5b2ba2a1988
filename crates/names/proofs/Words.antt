-- The record of its words. Assumes nothing.
use Prim.Native.Nat.{ℕ, ◌+◌, ◌*◌}
use mathlib.Core.Path.{◌≡◌}
use mathlib.Core.Bool.{false}
use mathlib.Core.List.{List}
use lib.ListN.{replicate}
use Rattle.record.specs.declared.ResTableConfig.{ResTableConfig}
use Rattle.grammar.specs.Slots as slot
use Rattle.grammar.specs.Made.{at, word, made}

-- words that are those of the values make their record
pub made_of : (vs : List ℕ) {imsi locale type input size version config dp config2 : ℕ}
    → imsi ≡ word (at vs slot.mcc + at vs slot.mnc * 65536)
    → locale ≡ word (at vs slot.language + at vs slot.region * 65536)
    → type ≡ word (at vs slot.orientation + at vs slot.touchscreen * 256 + at vs slot.density * 65536)
    → input ≡ word (at vs slot.keyboard + at vs slot.navigation * 256 + (at vs slot.keys_hidden + at vs slot.nav_hidden) * 65536 + at vs slot.gender * 16777216)
    → size ≡ word (at vs slot.sides)
    → version ≡ word (at vs slot.version)
    → config ≡ word ((at vs slot.layout_dir + at vs slot.screen_size + at vs slot.screen_long) + (at vs slot.ui_type + at vs slot.night) * 256 + at vs slot.smallest_width * 65536)
    → dp ≡ word (at vs slot.width + at vs slot.height * 65536)
    → config2 ≡ word (at vs slot.screen_round + (at vs slot.gamut + at vs slot.hdr) * 256)
    → ◌≡◌ {A = ResTableConfig} (record {
      size = 64;
      imsi = imsi;
      locale = locale;
      screen_type = type;
      generic_purpose_field = input;
      screen_size = size;
      version = version;
      screen_config = config;
      screen_size_dp = dp;
      locale_script = replicate 4 0;
      locale_variant = replicate 8 0;
      screen_config_2 = config2;
      locale_script_was_computed = false;
      locale_numbering_system = replicate 8 0;
      end_padding = replicate 3 0;
    }) (made vs)
unfolding made
made_of vs e0 e1 e2 e3 e4 e5 e6 e7 e8 = rw (e0, e1, e2, e3, e4, e5, e6, e7, e8)
