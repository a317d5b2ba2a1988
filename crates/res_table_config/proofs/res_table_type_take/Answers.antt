-- What `take_chunk` answers, packed. Assumes nothing.
use mathlib.Core.Path.{◌∙◌}
use Rattle.res_table_config.proofs.Small.{chunk_take_small}
use Rattle.res_table_config.proofs.Answers.{fits}
use Rattle.res_table_config.proofs.res_table_type_take.Goals as goal

pub packed-requires : goal.packed-requires
packed-requires c = fits _ _ c.take_chunk.ensures (chunk_take_small _ c.are_bytes.ensures)

pub returns : goal.returns
returns c = c.packed.ensures ∙ c.take_chunk.ensures
