-- The letters' lengths add up. Assumes nothing.
use Prim.Native.Nat.{◌+◌, ◌*◌, ◌/◌, ◌%◌}
use mathlib.Core.Path.{sym, ap}
use mathlib.Core.List.{[], ◌∷◌, ◌++◌}
use native.Mathlib.Omega.{arith}
use borrow.Author.Rules.{rules}
use lib.ListN.{length, length-append}
use Rattle.subtag.specs.Subtag.{subtag_of}
use Rattle.language.proofs.Unpacked.{none_is, two_is, three_is}
use Rattle.language.proofs.unpacked_length.Goals as goal

pub returns-then-a-eq0 : goal.returns-then-a-eq0
returns-then-a-eq0 c = sym (ap length (none_is _ _ _ c.if-a-eq0.true).0)

pub returns-then-a-lt128 : goal.returns-then-a-lt128
returns-then-a-lt128 c = omega (arith, ap length (two_is c.args.base c.args.a c.args.b c.if-a-eq0.false c.if-a-lt128.true).0, c.letter_length.ensures.0)

pub returns : goal.returns
returns c = let x = subtag_of ((c.args.b % 32 + c.args.base) ∷ []) in
    let y = subtag_of ((c.args.b / 32 + c.args.a % 4 * 8 + c.args.base) ∷ []) in
    let z = subtag_of ((c.args.a / 4 % 32 + c.args.base) ∷ []) in
    omega (
      arith,
      ap length (three_is c.args.base c.args.a c.args.b c.if-a-lt128.false (search rules) c.requires).0,
      length-append (x ++ y) z,
      length-append x y,
      c.letter_length-2.ensures.0,
      c.letter_length-3.ensures.0,
      c.letter_length-4.ensures.0,
    )
