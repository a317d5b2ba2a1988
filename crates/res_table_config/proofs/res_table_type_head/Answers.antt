-- What `chunk_head` answers, packed. Assumes nothing.
use Rattle.res_table_config.proofs.Small.{head_small}
use Rattle.res_table_config.proofs.Answers.{written_fits, written-told}
use Rattle.res_table_config.proofs.res_table_type_head.Goals as goal

pub packed-requires : goal.packed-requires
packed-requires c = written_fits c.chunk_head.result _ _ c.chunk_head.ensures (head_small _ _)

pub returns : goal.returns
returns c = written-told c.chunk_head.result _ _ c.chunk_head.ensures _ c.packed.ensures
