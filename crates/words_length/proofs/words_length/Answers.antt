-- The words of a kind are no longer than 25 bytes. Assumes nothing.
use native.Mathlib.Omega.{arith}
use Rattle.words_length.proofs.Long.{words_long}
use Rattle.words_length.proofs.words_length.Goals as goal

pub returns-clause-upper_bound : goal.returns-clause-upper_bound
returns-clause-upper_bound c = omega (arith, c.words_length.ensures, words_long c.args.kind _ c.well_formed.0)
