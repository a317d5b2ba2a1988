-- The letters of the word are put. Assumes nothing.
use Rattle.marking.specs.Marks.{letters_in}
use Rattle.marking.proofs.put_marks.Goals as goal

pub returns : goal.returns
unfolding letters_in
returns c = rw (← c.word_in.ensures) c.put_letters.ensures
