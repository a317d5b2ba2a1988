-- What `write_name` answers, packed. Assumes nothing.
use Rattle.res_table_config.proofs.Small.{named_small}
use Rattle.res_table_config.proofs.Answers.{written_fits, written-told}
use Rattle.res_table_config.proofs.res_table_config_named.Goals as goal

pub packed-requires : goal.packed-requires
packed-requires c = written_fits c.write_name.result _ _ c.write_name.ensures (named_small _ _)

pub returns : goal.returns
returns c = written-told c.write_name.result _ _ c.write_name.ensures _ c.packed.ensures
