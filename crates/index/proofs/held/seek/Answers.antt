-- The rank lies between the two ends, until one that is Equal is met or the ends meet. Assumes nothing.
use Prim.Native.Nat.{ℕ, ◌/◌, ◌≤◌, ◌<◌}
use mathlib.Core.Path.{◌≡◌, sym, ap, ◌∙◌}
use native.Mathlib.Omega.{arith}
use Rattle.order_at.specs.OrderAt.{order_at}
use Rattle.rising.proofs.Bisect.{between_all, between_up, between_down, between_met, between_equal}
use Rattle.rising.proofs.Ranked.{toward_place}
use Rattle.index.specs.Steps.{places_in}
use Rattle.index.proofs.Words.{ranks, place_at, places_long}
use lib.ListN.{get_or, take, length}
use mathlib.Core.Bool.{Bool}
use Rattle.index.specs.Steps.{unit_of}
use mathlib.Core.List.{List}
use Rattle.order.specs.declared.Ordering.{Ordering}
use Rattle.index.proofs.held.seek.Goals as goal

-- what is found at a place
found : (s held : List ℕ) (counted : Bool) (x m mid q : ℕ) (r o : Ordering) → m ≤ length held → mid < m → q ≡ get_or held mid 0 / unit_of counted
    → r ≡ order_at s q x → r ≡ o → order_at s (get_or (places_in counted (take m held)) mid 0) x ≡ o
found s held counted x m mid q r o room inside here is e =
    ap (λ (p : ℕ). order_at s p x) (place_at counted held m room mid inside ∙ sym here) ∙ sym is ∙ e

pub loop-lo-init : goal.loop-lo-init
loop-lo-init c = (omega arith, between_all _ _ _ (places_long c.args.counted c.args.held.now c.args.m c.requires.0))

pub overflow_add-mid : goal.overflow_add-mid
overflow_add-mid c = omega (arith, c.loop-lo.invariant.0)

pub bounds-held-mid : goal.bounds-held-mid
bounds-held-mid c = omega (arith, c.loop-lo.invariant.0, c.requires.0)

pub overflow_add-lo : goal.overflow_add-lo
overflow_add-lo c = omega (arith, c.loop-lo.invariant.0)

pub loop-lo-preserved-in-Less : goal.loop-lo-preserved-in-Less
loop-lo-preserved-in-Less c = (c.loop-lo.invariant.0, between_up _ _ _ (toward_place _ (ranks _) _) c.requires.1 _ _ _ c.loop-lo.invariant.1 (omega arith) (found c.args.bytes.now c.args.held.now c.args.counted c.args.offset c.args.m _ _ _ _ c.requires.0 (omega (arith, c.loop-lo.invariant.0)) c.offset_in.ensures c.order_at.ensures c.in-Less.is))

pub loop-lo-preserved : goal.loop-lo-preserved
loop-lo-preserved c = (omega (arith, c.loop-lo.invariant.0), between_down _ _ _ _ _ c.loop-lo.invariant.1 (omega arith) (found c.args.bytes.now c.args.held.now c.args.counted c.args.offset c.args.m _ _ _ _ c.requires.0 (omega (arith, c.loop-lo.invariant.0)) c.offset_in.ensures c.order_at.ensures c.in-Greater.is))

pub returns-in-Equal : goal.returns-in-Equal
returns-in-Equal c = let long = places_long c.args.counted c.args.held.now c.args.m c.requires.0 in
    let e = between_equal _ _ _ (toward_place _ (ranks _) _) c.requires.1 _ (omega (arith, c.loop-lo.invariant.0, long)) (found c.args.bytes.now c.args.held.now c.args.counted c.args.offset c.args.m _ _ _ _ c.requires.0 (omega (arith, c.loop-lo.invariant.0)) c.offset_in.ensures c.order_at.ensures c.in-Equal.is) in
    record { at = e.0; met = e.1 }

pub returns : goal.returns
returns c = let e = between_met _ _ _ _ c.loop-lo.invariant.1 (omega (arith, c.loop-lo-test.false)) in
    record { at = e.0; met = e.1 }
