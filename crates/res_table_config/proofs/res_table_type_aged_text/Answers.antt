-- What `chunk_text` answers, packed. Assumes nothing.
use Rattle.res_table_config.proofs.Small.{chunk_text_small}
use Rattle.res_table_config.proofs.Answers.{counted_fits, counted-told}
use Rattle.res_table_config.proofs.res_table_type_aged_text.Goals as goal

pub packed-requires : goal.packed-requires
packed-requires c = counted_fits c.chunk_text.result _ _ c.chunk_text.ensures (chunk_text_small _ _ _ c.are_bytes.ensures)

pub returns : goal.returns
returns c = counted-told c.chunk_text.result _ _ c.chunk_text.ensures _ c.packed.ensures
