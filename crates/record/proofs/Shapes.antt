-- Every record that a function is given has its arrays' lengths. Assumes nothing.
use mathlib.Core.List.{List}
use borrow.Author.Rules.{rules}
use mir.Val.{Val}
use denote.Laws.{Is}
use Rattle.record.specs.declared.ResTableConfig.{ResTableConfig}
use Rattle.record.specs.Shape.{Shaped}
use Rattle.record.specs.contracts.ResTableConfig as config

pub shaped : (r : ResTableConfig) (vs : List Val) → Is config.the_row r vs → Shaped r
shaped r vs h = record { script = search rules; variant = search rules; numbering = search rules; padding = search rules }
