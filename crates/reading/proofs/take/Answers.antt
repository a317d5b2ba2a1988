-- `take` takes T bytes where they are there. Assumes nothing.
use native.Mathlib.Omega.{arith}
use mathlib.Core.Path.{sym, ap, ◌∙◌}
use Rattle.answers.specs.Tells.{refusal}
use Rattle.reading.specs.Cut.{lacking}
use Rattle.reading.proofs.Whole.{whole_short, whole_cut, took_is}
use Rattle.reading.proofs.take.Goals as goal

pub returns-then-bytes-lt16 : goal.returns-then-bytes-lt16
returns-then-bytes-lt16 c = sym (whole_short _ _ _ c.if-bytes-lt16.true)

pub returns-then-bytes-size : goal.returns-then-bytes-size
returns-then-bytes-size c = ap refusal (c.lacking.ensures ∙ ap (lacking _) c.word-size.ensures)
    ∙ sym (whole_cut _ _ _ (omega arith) (omega (arith, c.word-size.ensures)))

pub returns : goal.returns
returns c = took_is _ _ (omega (arith, c.word-size.ensures)) (omega (arith, c.word-size.ensures, c.max.ensures))
