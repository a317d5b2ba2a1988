-- Two bytes, three other bytes than "car", "car", or another number of them. Assumes nothing.
use Prim.Native.Nat.{◌<◌}
use mathlib.Core.Path.{sym, subst, ◌∙◌}
use native.Mathlib.Omega.{arith}
use lib.ListN.{get_or}
use Rattle.std.specs.Option.{SomeIff}
use Rattle.letters.proofs.Letters.{two_given}
use Rattle.letters.proofs.Ways.{language_of_two, language_of_three, language_of_other}
use Rattle.letters.proofs.language_value.Goals as goal

pub returns-in-len2 : goal.returns-in-len2
returns-in-len2 c = subst (λ n. SomeIff c.two.result (0 < n) n) (language_of_two c.args.s.now (omega arith)) (two_given c.two.result 97 122 (get_or c.args.s.now 0 0) (get_or c.args.s.now 1 0) (omega arith) c.two.ensures)

pub returns-in-len3 : goal.returns-in-len3
returns-in-len3 c =
    let e = language_of_three c.args.s.now _ (omega arith) (sym c.same.ensures ∙ c.if-not-same.true) in
    subst (λ n. SomeIff c.three.result (0 < n) n) e c.three.ensures

pub returns-in_default : goal.returns-in_default
returns-in_default c = λ h. omega (arith, language_of_other c.args.s.now (λ e. omega arith) (λ e. omega arith))

pub returns-in_default-2 : goal.returns-in_default-2
returns-in_default-2 c = λ h. omega (arith, language_of_three c.args.s.now _ (omega arith) (sym c.same.ensures ∙ c.if-not-same.false))

pub returns-in_default-3 : goal.returns-in_default-3
returns-in_default-3 c = λ h. omega (arith, language_of_other c.args.s.now (λ e. omega arith) (λ e. omega arith))
