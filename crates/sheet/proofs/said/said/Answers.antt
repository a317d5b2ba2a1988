-- Five groups make the whole. Assumes nothing.
use Rattle.sheet.proofs.Bits.{whole}
use Rattle.sheet.specs.Sheet.{said_of}
use Rattle.sheet.proofs.said.said.Goals as goal

pub returns : goal.returns
returns c = whole (said_of c.args.r) c.said_from_0-a.ensures.0 c.said_from_4-b.ensures.0
    c.said_from_8-c.ensures.0 c.said_from_13-d.ensures.0 c.said_from_18-e.ensures.0
