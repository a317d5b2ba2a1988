-- What the types say of a record's arrays. Assumes nothing.
use Rattle.std.specs.Prelude.{◌≡◌, length}
use Rattle.record.specs.declared.ResTableConfig.{ResTableConfig}

-- the arrays of a record have the lengths of their types
pub record Shaped (r : ResTableConfig) : Type 0 where
  pub script : length r.locale_script ≡ 4
  pub variant : length r.locale_variant ≡ 8
  pub numbering : length r.locale_numbering_system ≡ 8
  pub padding : length r.end_padding ≡ 3
