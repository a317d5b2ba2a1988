-- Any two sheets that the contract allows for one record are one. Assumes nothing.
use mathlib.Core.Path.{◌≡◌}
use Rattle.answers.proofs.OneOutcome.{one_answer}
use Rattle.record.specs.declared.ResTableConfig.{ResTableConfig}
use Rattle.sheet.specs.declared.Sheet.{Sheet}
use Rattle.sheet.specs.Sheet.{sheet_of}

pub one_sheet : (r : ResTableConfig) (s t : Sheet) → s ≡ sheet_of r → t ≡ sheet_of r → s ≡ t
one_sheet r s t p q = one_answer sheet_of r s t p q
