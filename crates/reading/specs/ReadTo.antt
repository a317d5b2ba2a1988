-- Reading for a caller who knows T already: no call of the face rests on it. Assumes nothing.
use Rattle.std.specs.Prelude.{ℕ, min, List, leb, length}
use Rattle.record.specs.declared.ResTableConfig.{ResTableConfig}
use Rattle.record.specs.Table.{end_of}
use Rattle.reading.specs.Reading.{record_by}

-- the record of the fields that end within a limit and within the bytes
abbrev pub read_to : ℕ → List ℕ → ResTableConfig
read_to limit s = record_by (λ f. leb (end_of f) (min limit (length s))) s
