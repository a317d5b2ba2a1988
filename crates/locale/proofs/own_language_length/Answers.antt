-- The language's length, and its bound. Assumes nothing.
use Prim.Native.Nat.{◌/◌, ◌%◌}
use native.Mathlib.Omega.{arith}
use Rattle.language.proofs.Long.{language_long}
use Rattle.locale.proofs.own_language_length.Goals as goal

pub returns : goal.returns
returns c = (c.language_length.ensures, omega (arith, c.language_length.ensures, language_long (c.args.r.locale % 256) (c.args.r.locale / 256 % 256)))
