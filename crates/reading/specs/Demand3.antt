-- Demand 3: what it is that two readings give the fields that a reader knows alike. Assumes nothing.
use Rattle.std.specs.Prelude.{ℕ, ◌≤◌, ◌≡◌}
use Rattle.record.specs.declared.ResTableConfig.{ResTableConfig}
use Rattle.record.specs.Table.{end_of}

-- each field that a reader of age a knows has the same value in both
pub record Alike (a : ℕ) (r t : ResTableConfig) : Type 0 where
  pub size : end_of 0 ≤ a → r.size ≡ t.size
  pub imsi : end_of 1 ≤ a → r.imsi ≡ t.imsi
  pub locale : end_of 2 ≤ a → r.locale ≡ t.locale
  pub screen_type : end_of 3 ≤ a → r.screen_type ≡ t.screen_type
  pub generic_purpose_field : end_of 4 ≤ a → r.generic_purpose_field ≡ t.generic_purpose_field
  pub screen_size : end_of 5 ≤ a → r.screen_size ≡ t.screen_size
  pub version : end_of 6 ≤ a → r.version ≡ t.version
  pub screen_config : end_of 7 ≤ a → r.screen_config ≡ t.screen_config
  pub screen_size_dp : end_of 8 ≤ a → r.screen_size_dp ≡ t.screen_size_dp
  pub locale_script : end_of 9 ≤ a → r.locale_script ≡ t.locale_script
  pub locale_variant : end_of 10 ≤ a → r.locale_variant ≡ t.locale_variant
  pub screen_config_2 : end_of 11 ≤ a → r.screen_config_2 ≡ t.screen_config_2
  pub locale_script_was_computed : end_of 12 ≤ a → r.locale_script_was_computed ≡ t.locale_script_was_computed
  pub locale_numbering_system : end_of 13 ≤ a → r.locale_numbering_system ≡ t.locale_numbering_system
  pub end_padding : end_of 14 ≤ a → r.end_padding ≡ t.end_padding
