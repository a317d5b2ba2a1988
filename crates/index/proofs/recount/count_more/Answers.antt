-- The count is read in two halves, and one more is put. Assumes nothing.
use Prim.Native.Nat.{◌+◌, ◌*◌}
use mathlib.Core.Path.{◌≡◌}
use native.Mathlib.Omega.{arith}
use Rattle.record.specs.Table.{part, le}
use Rattle.index.proofs.Amounts.{halves_say, more_put}
use Rattle.index.proofs.recount.count_more.Goals as goal

pub overflow_add-count-2 : goal.overflow_add-count-2
overflow_add-count-2 c =
    let read : c.half_at.result + 4294967296 * c.half_at-2.result ≡ le (part c.args.out.now c.args.at 8) =
    let low = c.half_at.ensures.0 in let high = c.half_at-2.ensures.0 in omega (arith, low, high, halves_say c.args.out.now c.args.at) in
    record { fits = omega (arith, read, c.requires.1) }

pub returns : goal.returns
returns c =
    let read : c.half_at.result + 4294967296 * c.half_at-2.result ≡ le (part c.args.out.now c.args.at 8) =
    let low = c.half_at.ensures.0 in let high = c.half_at-2.ensures.0 in omega (arith, low, high, halves_say c.args.out.now c.args.at) in
    more_put _ _ _ c.requires.0 read c.put_eight.ensures
