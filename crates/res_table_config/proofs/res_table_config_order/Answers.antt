-- What `order_in` answers, packed. Assumes nothing.
use mathlib.Core.Path.{◌∙◌}
use Rattle.res_table_config.proofs.Small.{order_small}
use Rattle.res_table_config.proofs.Answers.{fits}
use Rattle.res_table_config.proofs.res_table_config_order.Goals as goal

pub packed-requires : goal.packed-requires
packed-requires c = fits _ _ c.order_in.ensures (order_small c.args.a.now c.args.b.now)

pub returns : goal.returns
returns c = c.packed.ensures ∙ c.order_in.ensures
