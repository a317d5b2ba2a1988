-- What `index` answers, packed. Assumes nothing.
use mathlib.Core.Path.{ap}
use Rattle.index.specs.Index.{IndexOutcome}
use Rattle.res_table_config.proofs.Small.{index_small}
use Rattle.res_table_config.proofs.Answers.{written_fits, written-told}
use Rattle.res_table_config.proofs.res_table_config_index.Goals as goal

pub packed-requires : goal.packed-requires
packed-requires c = written_fits c.index.result.answer _ _ (ap (λ (o : IndexOutcome). o.does) c.index.ensures) (index_small c.args.bytes.now c.args.out.now)

pub returns : goal.returns
returns c = written-told c.index.result.answer _ _ (ap (λ (o : IndexOutcome). o.does) c.index.ensures) _ c.packed.ensures
