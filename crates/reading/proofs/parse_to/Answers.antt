-- What is read ends within T and the age; else the refusal is that of `take`. Assumes nothing.
use mathlib.Core.Path.{sym, ap, ◌∙◌}
use native.Mathlib.Omega.{arith}
use Rattle.answers.proofs.Passed.{passed_on}
use Rattle.reading.specs.Reading.{parsed_outcome}
use Rattle.reading.proofs.Limits.{aged_is}
use Rattle.reading.proofs.Whole.{took_says, took_whole, refused_whole}
use Rattle.reading.proofs.parse_to.Goals as goal

pub record_to-record-requires : goal.record_to-record-requires
record_to-record-requires c = let f = took_says c.args.bytes.now c.in_ok-taken.taken c.in_ok-taken.ensures in
    omega arith

pub returns : goal.returns
returns c = let e = c.in_ok-taken.ensures in
    rw (took_whole c.args.bytes.now _ _ c.in_ok-taken.taken e, aged_is c.args.age c.args.bytes.now, ← (took_says c.args.bytes.now c.in_ok-taken.taken e).0, ← c.lesser.ensures, ← c.record_to-record.ensures)

pub returns-in_err-taken : goal.returns-in_err-taken
returns-in_err-taken c = ap parsed_outcome (passed_on c.from_residual.ensures.1) ∙ sym (refused_whole c.args.bytes.now _ _ _ c.in_err-taken.ensures)
