-- A record is whole where as many bytes are left as it takes, and is read to the lesser of T and 64. Assumes nothing.
use native.Mathlib.Omega.{arith}
use lib.ListN.{length-drop}
use Rattle.order_at.proofs.Limits.{none_read, whole_read}
use Rattle.order_at.proofs.limit_at.Goals as goal

pub returns-then-bytes-offset : goal.returns-then-bytes-offset
returns-then-bytes-offset c = none_read _ _ (λ h. omega (arith, length-drop c.args.offset c.args.bytes.now))

pub returns-then-left-lt16 : goal.returns-then-left-lt16
returns-then-left-lt16 c = none_read _ _ (λ h. omega (arith, length-drop c.args.offset c.args.bytes.now))

pub returns-then-left-size : goal.returns-then-left-size
returns-then-left-size c = none_read _ _ (λ h. omega (arith, c.word_at-size.ensures, length-drop c.args.offset c.args.bytes.now))

pub returns-then-size-lt16 : goal.returns-then-size-lt16
returns-then-size-lt16 c = let long = length-drop c.args.offset c.args.bytes.now in
    whole_read _ _ 16 (omega (arith, c.word_at-size.ensures)) (omega (arith, c.word_at-size.ensures))

pub returns : goal.returns
returns c = let long = length-drop c.args.offset c.args.bytes.now in
    whole_read _ _ _ (omega (arith, c.word_at-size.ensures)) (omega (arith, c.word_at-size.ensures, c.lesser.ensures))
