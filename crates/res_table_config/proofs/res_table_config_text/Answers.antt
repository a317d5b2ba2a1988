-- What `plain_text` answers, packed. Assumes nothing.
use Rattle.res_table_config.proofs.Small.{text_small}
use Rattle.res_table_config.proofs.Answers.{counted_fits, counted-told}
use Rattle.res_table_config.proofs.res_table_config_text.Goals as goal

pub packed-requires : goal.packed-requires
packed-requires c = counted_fits c.plain_text.result _ _ c.plain_text.ensures (text_small _ _ c.are_bytes.ensures)

pub returns : goal.returns
returns c = counted-told c.plain_text.result _ _ c.plain_text.ensures _ c.packed.ensures
