-- What isn't whole is refused, and else the record is written with the other size. Assumes nothing.
use Rattle.buffer.specs.Written.{outcome}
use Rattle.reading.proofs.Going.{take_passed}
use Rattle.text.proofs.Answers.{plain-refused}
use Rattle.test_probe.proofs.Answers.{sized-whole}
use Rattle.test_probe.proofs.write_sized.Goals as goal

pub returns : goal.returns
returns c = sized-whole c.args.bytes.now _ _ c.in_ok-parsed.parsed _ _ c.in_ok-parsed.ensures c.sized.ensures c.write.ensures

pub returns-in_err-parsed : goal.returns-in_err-parsed
returns-in_err-parsed c = take_passed (λ r. outcome r c.args.out.now) _ _ _ (plain-refused c.args.bytes.now c.args.out.now _ c.in_err-parsed.ensures)
    c.from_residual.ensures.1
