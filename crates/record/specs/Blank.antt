-- The record that goes along with a refusal, and a record with another size. Assumes nothing.
use Rattle.std.specs.Prelude.{ℕ, false, replicate}
use Rattle.record.specs.declared.ResTableConfig.{ResTableConfig}

-- zero in every field
abbrev pub blank_record : ResTableConfig
blank_record =
    record {
      size = 0;
      imsi = 0;
      locale = 0;
      screen_type = 0;
      generic_purpose_field = 0;
      screen_size = 0;
      version = 0;
      screen_config = 0;
      screen_size_dp = 0;
      locale_script = replicate 4 0;
      locale_variant = replicate 8 0;
      screen_config_2 = 0;
      locale_script_was_computed = false;
      locale_numbering_system = replicate 8 0;
      end_padding = replicate 3 0;
    }

-- the record with another size
abbrev pub with_size : ResTableConfig → ℕ → ResTableConfig
with_size r n =
    record {
      size = n;
      imsi = r.imsi;
      locale = r.locale;
      screen_type = r.screen_type;
      generic_purpose_field = r.generic_purpose_field;
      screen_size = r.screen_size;
      version = r.version;
      screen_config = r.screen_config;
      screen_size_dp = r.screen_size_dp;
      locale_script = r.locale_script;
      locale_variant = r.locale_variant;
      screen_config_2 = r.screen_config_2;
      locale_script_was_computed = r.locale_script_was_computed;
      locale_numbering_system = r.locale_numbering_system;
      end_padding = r.end_padding;
    }
