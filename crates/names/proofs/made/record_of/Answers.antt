-- `record_of` makes each word of its values. Assumes nothing.
use Rattle.names.proofs.Words.{made_of}
use Rattle.names.proofs.made.record_of.Goals as goal

pub returns : goal.returns
returns c = made_of _ c.halves.ensures c.halves-2.ensures c.screen_type.ensures c.input.ensures c.word.ensures
    c.word-2.ensures c.screen_config.ensures c.halves-3.ensures c.screen_config_2.ensures
