-- Two records are one where each of their fields is. Assumes nothing.
use mathlib.Core.Path.{◌≡◌}
use Rattle.record.specs.declared.ResTableConfig.{ResTableConfig}

-- the fields are equal, each under its own name
pub record SameFields (a b : ResTableConfig) : Type 0 where
  pub size : a.size ≡ b.size
  pub imsi : a.imsi ≡ b.imsi
  pub locale : a.locale ≡ b.locale
  pub screen_type : a.screen_type ≡ b.screen_type
  pub generic_purpose_field : a.generic_purpose_field ≡ b.generic_purpose_field
  pub screen_size : a.screen_size ≡ b.screen_size
  pub version : a.version ≡ b.version
  pub screen_config : a.screen_config ≡ b.screen_config
  pub screen_size_dp : a.screen_size_dp ≡ b.screen_size_dp
  pub locale_script : a.locale_script ≡ b.locale_script
  pub locale_variant : a.locale_variant ≡ b.locale_variant
  pub screen_config_2 : a.screen_config_2 ≡ b.screen_config_2
  pub locale_script_was_computed : a.locale_script_was_computed ≡ b.locale_script_was_computed
  pub locale_numbering_system : a.locale_numbering_system ≡ b.locale_numbering_system
  pub end_padding : a.end_padding ≡ b.end_padding

pub same : {a b : ResTableConfig} → SameFields a b → a ≡ b
same e i =
    record {
      size = e.size i;
      imsi = e.imsi i;
      locale = e.locale i;
      screen_type = e.screen_type i;
      generic_purpose_field = e.generic_purpose_field i;
      screen_size = e.screen_size i;
      version = e.version i;
      screen_config = e.screen_config i;
      screen_size_dp = e.screen_size_dp i;
      locale_script = e.locale_script i;
      locale_variant = e.locale_variant i;
      screen_config_2 = e.screen_config_2 i;
      locale_script_was_computed = e.locale_script_was_computed i;
      locale_numbering_system = e.locale_numbering_system i;
      end_padding = e.end_padding i;
    }
