-- What `aged_text` answers, packed. Assumes nothing.
use Rattle.res_table_config.proofs.Small.{aged_small}
use Rattle.res_table_config.proofs.Answers.{counted_fits, counted-told}
use Rattle.res_table_config.proofs.res_table_config_aged_text.Goals as goal

pub packed-requires : goal.packed-requires
packed-requires c = counted_fits c.aged_text.result _ _ c.aged_text.ensures (aged_small _ _ _ c.are_bytes.ensures)

pub returns : goal.returns
returns c = counted-told c.aged_text.result _ _ c.aged_text.ensures _ c.packed.ensures
