-- What `find_in` answers, packed. Assumes nothing.
use mathlib.Core.Path.{◌∙◌}
use Rattle.res_table_config.proofs.Small.{find_small}
use Rattle.res_table_config.proofs.Answers.{fits}
use Rattle.res_table_config.proofs.res_table_config_find.Goals as goal

pub packed-requires : goal.packed-requires
packed-requires c = fits _ _ c.find_in.ensures (find_small c.args.entries.now c.args.bytes.now)

pub returns : goal.returns
returns c = c.packed.ensures ∙ c.find_in.ensures
