-- `read_name` goes from part to part, up to the last or the first that can't stand where it is. Assumes nothing.
use mathlib.Core.Path.{refl, ◌∙◌}
use native.Mathlib.Omega.{arith}
use lib.ListN.{length-set}
use Rattle.laws.proofs.Tests.{not_yes}
use Rattle.names.proofs.Reading.{read_all, read_dash, goes_on, stops, ends, found_slot, within, name_refused, name_read, name_empty}
use Rattle.names.proofs.read_name.Goals as goal

pub returns-then-name-eq0 : goal.returns-then-name-eq0
returns-then-name-eq0 c = c.named.ensures ∙ name_empty _ c.if-name-eq0.true

pub returns-then-name-eq45 : goal.returns-then-name-eq45
returns-then-name-eq45 c = name_refused _ _ (read_dash _ c.if-name-eq0.false c.if-name-eq45.true)

pub loop-found-init : goal.loop-found-init
loop-found-init c = (omega arith, refl, read_all _ c.if-name-eq0.false c.if-name-eq45.false)

pub slice_bounds-part_from-end : goal.slice_bounds-part_from-end
slice_bounds-part_from-end c = omega (arith, within c.args.name.now c.loop-found.at _ c.loop-found.invariant.0 c.next_at-end.ensures)

pub returns-in_default : goal.returns-in_default
returns-in_default c = name_refused _ _
    (stops c.args.name.now c.loop-found.values c.loop-found.next c.loop-found.at _ _ c.loop-found.invariant.2 c.loop-found.invariant.0 c.next_at-end.ensures refl
    (not_yes _ c.in_default.ensures))

pub offset_bounds-values-slot : goal.offset_bounds-values-slot
offset_bounds-values-slot c = omega (
  arith,
  found_slot c.loop-found.next _ c.in-Some.ensures.1 (rw (← c.in-Some.ensures.1) at c.in-Some.ensures.0),
)

pub bounds-values-slot : goal.bounds-values-slot
bounds-values-slot c = omega (
  arith,
  c.loop-found.invariant.1,
  found_slot c.loop-found.next _ c.in-Some.ensures.1 (rw (← c.in-Some.ensures.1) at c.in-Some.ensures.0),
)

pub returns-then-end-name : goal.returns-then-end-name
returns-then-end-name c = c.named-then-end-name.ensures
    ∙ name_read _ _ _
    (ends c.args.name.now c.loop-found.values c.loop-found.next c.loop-found.at _ _ c.loop-found.invariant.2 c.loop-found.invariant.0 c.next_at-end.ensures c.in-Some.ensures.1
    c.if-end-name.true (rw (← c.in-Some.ensures.1) at c.in-Some.ensures.0))

pub overflow_add-next : goal.overflow_add-next
overflow_add-next c = omega (
  arith,
  found_slot c.loop-found.next _ c.in-Some.ensures.1 (rw (← c.in-Some.ensures.1) at c.in-Some.ensures.0),
)

pub loop-found-preserved : goal.loop-found-preserved
loop-found-preserved c = let e = within c.args.name.now c.loop-found.at _ c.loop-found.invariant.0 c.next_at-end.ensures in (
  omega (arith, c.if-end-name.false, e),
  length-set c.loop-found.values _ _ ∙ c.loop-found.invariant.1,
  goes_on c.args.name.now c.loop-found.values c.loop-found.next c.loop-found.at _ _ c.loop-found.invariant.2 c.loop-found.invariant.0 c.next_at-end.ensures c.in-Some.ensures.1
      (omega (arith, c.if-end-name.false, e)) (rw (← c.in-Some.ensures.1) at c.in-Some.ensures.0),
)
