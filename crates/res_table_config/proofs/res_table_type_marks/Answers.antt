-- What `chunk_marks` answers, packed. Assumes nothing.
use Rattle.res_table_config.proofs.Small.{chunk_marks_small}
use Rattle.res_table_config.proofs.Answers.{written_fits, written-told}
use Rattle.res_table_config.proofs.res_table_type_marks.Goals as goal

pub packed-requires : goal.packed-requires
packed-requires c = written_fits c.chunk_marks.result _ _ c.chunk_marks.ensures (chunk_marks_small _ _ _)

pub returns : goal.returns
returns c = written-told c.chunk_marks.result _ _ c.chunk_marks.ensures _ c.packed.ensures
