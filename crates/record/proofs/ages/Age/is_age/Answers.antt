-- The search goes over the twelve ends that are ages. Assumes nothing.
use mathlib.Core.Path.{◌∙◌}
use Rattle.record.specs.Ages.{ages, is_age}
use Rattle.record.proofs.Among.{any_among}
use Rattle.record.proofs.ages.Age.is_age.Goals as goal

pub returns : goal.returns
unfolding is_age
returns c = c.contains.ensures.value ∙ any_among c.args.self.0 ages
