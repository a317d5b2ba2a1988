-- `recognise` asks for a language, and then by the first byte. Assumes nothing.
use Prim.Native.Nat.{◌<◌}
use mathlib.Core.Path.{ap, subst, ◌∙◌}
use native.Mathlib.Omega.{arith}
use Rattle.std.specs.Option.{SomeIff}
use Rattle.parts.specs.declared.Found.{Found}
use Rattle.parts.specs.Beginning.{class_of, found_by}
use Rattle.parts.proofs.Beginning.{recognised_first, recognised_empty, recognised_language}
use Rattle.parts.proofs.recognise.Goals as goal

pub returns-in-Some : goal.returns-in-Some
returns-in-Some c =
    let e = recognised_language c.args.s.now c.in-Some.ensures.1 (λ z. omega (arith, c.in-Some.ensures)) in
    rw c.in_slot.ensures (omega (arith, ap (λ (f : Found). f.value) e, c.in-Some.ensures), e)

pub returns-in_err-first : goal.returns-in_err-first
returns-in_err-first c =
    let e = recognised_empty c.args.s.now (omega (arith, c.in_err-first.ensures.item.3)) in
    rw c.from_residual.ensures (λ h. omega (arith, ap (λ (f : Found). f.value) e))

pub returns : goal.returns
returns c =
    let s = c.args.s.now in
    let first = c.in_ok-first.ensures.item.4 (omega arith) 0 in
    let e = recognised_first s (λ z. omega (arith, c.in_ok-first.ensures.item.3.0)) (omega (arith, c.in_default.ensures)) in
    subst (λ (f : Found). SomeIff c.by_letter.result (0 < f.value) f) (ap (λ b. found_by (class_of b) s) first ∙ e) c.by_letter.ensures
