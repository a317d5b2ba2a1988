-- `number_in` reads digit by digit. Assumes nothing.
use Prim.Native.Nat.{◌≤◌}
use mathlib.Core.Path.{◌≡◌}
use lib.ListN.{length, drop}
use Rattle.numbers.specs.Numbers.{further_all, number_in}
use Rattle.numbers.proofs.number_in.Given as goal

abbrev pub invariant-loop-b : goal.invariant-loop-b
invariant-loop-b l = (l.b-index ≤ length l.s) × (l.n ≤ 65535) × (further_all l.n (drop l.b-index l.s) ≡ number_in l.s)
