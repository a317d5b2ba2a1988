-- The loop passes the entries that don't have the key, so it stops at the first that has. Assumes nothing.
use mathlib.Core.Path.{◌∙◌}
use native.Mathlib.Omega.{arith}
use borrow.Author.Tests.{eq-eqb, ne_eqb}
use Rattle.laws.proofs.Least.{one_passed}
use Rattle.finding.specs.Finding.{has_key}
use Rattle.finding.proofs.Seeking.{byte_apart, entry_agrees, place_found, place_none}
use Rattle.finding.proofs.place_of.Goals as goal

-- the byte where the entry before differed differs here too
pub loop-place-preserved-then-entries-at : goal.loop-place-preserved-then-entries-at
loop-place-preserved-then-entries-at c = let other = entry_agrees c.args.entries.now c.args.key.now c.loop-place.place (byte_apart c.args.entries.now _ c.args.key.now c.loop-place.spot c.loop-place.invariant.0 c.if-entries-at.true) in
    (c.loop-place.invariant.0, one_passed (has_key c.args.entries.now c.args.key.now) c.loop-place.place c.loop-place.invariant.1 other)

-- all bytes are the key's
pub returns-then-spot-eq60 : goal.returns-then-spot-eq60
returns-then-spot-eq60 c = place_found c.args.entries.now c.args.key.now c.loop-place.place (omega arith)
    (record { holds = entry_agrees c.args.entries.now c.args.key.now c.loop-place.place (c.apart_at-spot.ensures.1 ∙ eq-eqb _ 60 c.if-spot-eq60.true); first = c.loop-place.invariant.1 })

-- another byte differs
pub loop-place-preserved : goal.loop-place-preserved
loop-place-preserved c = let other = entry_agrees c.args.entries.now c.args.key.now c.loop-place.place (c.apart_at-spot.ensures.1 ∙ ne_eqb _ 60 c.if-spot-eq60.false) in
    (omega (arith, c.apart_at-spot.ensures.0, c.if-spot-eq60.false), one_passed (has_key c.args.entries.now c.args.key.now) c.loop-place.place c.loop-place.invariant.1 other)

pub returns : goal.returns
returns c = place_none c.args.entries.now c.args.key.now (λ g h. c.loop-place.invariant.1 g (omega arith))
