-- What is told comes back from the packed number. Assumes nothing.
use mathlib.Core.Path.{sym, ap, ◌∙◌}
use Rattle.answers.specs.Tells.{packed_of}
use Rattle.res_table_config.specs.Face.{answer_tells}
use Rattle.res_table_config.proofs.Packing.{unpacked}
use Rattle.res_table_config.proofs.packed.Goals as goal

pub returns : goal.returns
returns g c = ap answer_tells (c.packed.ensures ∙ ap packed_of c.from.ensures) ∙ unpacked _ c.requires
