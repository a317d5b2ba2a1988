-- The key is put, and looked for. Assumes nothing.
use mathlib.Core.Path.{refl}
use Rattle.finding.proofs.Seeking.{key_filled, found_by_key}
use Rattle.finding.proofs.find.Goals as goal

pub returns : goal.returns
returns c = found_by_key _ _ (key_filled _ c.sound.ensures refl c.put_key.ensures) c.place_of.ensures
