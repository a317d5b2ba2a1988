-- The sign and the subtag, where it is there. Assumes nothing.
use native.Mathlib.Omega.{arith}
use Rattle.buffer.proofs.Putting.{reach_fits}
use Rattle.subtag.specs.Subtag.{subtag_of}
use Rattle.subtag.proofs.Long.{subtag_long}
use Rattle.locale.proofs.Long.{behind_there_long}
use Rattle.locale.proofs.behind_length.Goals as goal

pub overflow_add-result : goal.overflow_add-result
overflow_add-result c = let long = subtag_long c.args.src.now in
    omega (arith, c.requires, long, c.subtag_reach.ensures, reach_fits 24 0 (subtag_of c.args.src.now) (omega (arith, c.requires, long)))

pub returns-then-there : goal.returns-then-there
returns-then-there c = let long = subtag_long c.args.src.now in
    let all = reach_fits 24 0 (subtag_of c.args.src.now) (omega (arith, c.requires, long)) in
    let behind = behind_there_long c.args.sign.now (subtag_of c.args.src.now) c.if-there.true in
    (omega (arith, behind, c.subtag_reach.ensures, all), omega (arith, c.requires, long, c.subtag_reach.ensures, all))
