-- What `write_letters` answers, packed. Assumes nothing.
use Rattle.res_table_config.proofs.Small.{letters_small}
use Rattle.res_table_config.proofs.Answers.{written_fits, written-told}
use Rattle.res_table_config.proofs.res_table_config_marks_letters.Goals as goal

pub packed-requires : goal.packed-requires
packed-requires c = written_fits c.write_letters.result _ _ c.write_letters.ensures (letters_small c.args.word c.args.out.now)

pub returns : goal.returns
returns c = written-told c.write_letters.result _ _ c.write_letters.ensures _ c.packed.ensures
