-- What `replacements` answers, packed. Assumes nothing.
use mathlib.Core.Path.{◌∙◌}
use Rattle.res_table_config.proofs.Small.{replaced_small}
use Rattle.res_table_config.proofs.Answers.{fits}
use Rattle.res_table_config.proofs.res_table_config_replaced.Goals as goal

pub packed-requires : goal.packed-requires
packed-requires c = fits _ _ c.replacements.ensures (replaced_small _ _ c.are_bytes.ensures)

pub returns : goal.returns
returns c = c.packed.ensures ∙ c.replacements.ensures
