-- Each case puts its own words. Assumes nothing.
use Rattle.buffer.proofs.Putting.{put_nil}
use Rattle.words.proofs.screen.DensityWords.put_words.Goals as goal

pub returns-in-Default : goal.returns-in-Default
returns-in-Default c = rw c.in-Default.is put_nil
