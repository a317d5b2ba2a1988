-- What `marks_word` answers, packed. Assumes nothing.
use mathlib.Core.Path.{◌∙◌}
use Rattle.res_table_config.proofs.Small.{word_told_small}
use Rattle.res_table_config.proofs.Answers.{fits}
use Rattle.res_table_config.proofs.res_table_config_marks_word.Goals as goal

pub packed-requires : goal.packed-requires
packed-requires c = fits _ _ c.marks_word.ensures (word_told_small _ _)

pub returns : goal.returns
returns c = c.packed.ensures ∙ c.marks_word.ensures
