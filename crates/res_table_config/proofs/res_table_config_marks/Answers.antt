-- What `marks` answers, packed. Assumes nothing.
use Rattle.res_table_config.proofs.Small.{marks_small}
use Rattle.res_table_config.proofs.Answers.{written_fits, written-told}
use Rattle.res_table_config.proofs.res_table_config_marks.Goals as goal

pub packed-requires : goal.packed-requires
packed-requires c = written_fits c.marks.result _ _ c.marks.ensures (marks_small _ _ _)

pub returns : goal.returns
returns c = written-told c.marks.result _ _ c.marks.ensures _ c.packed.ensures
