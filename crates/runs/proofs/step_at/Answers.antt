-- 3 first; then what stands at the offset. Assumes nothing.
use Prim.Native.Nat.{ℕ, ◌+◌}
use mathlib.Core.Path.{◌≡◌, sym, ap, ◌∙◌}
use native.Mathlib.Omega.{arith}
use borrow.Author.Rules.{rules}
use borrow.Author.Tests.{not-true, not-false}
use lib.ListN.{drop}
use Rattle.record.specs.declared.ResTableConfig.{ResTableConfig}
use Rattle.reading.specs.ReadTo.{read_to}
use Rattle.reading.proofs.Limits.{read_aged}
use Rattle.runs.specs.Fronts.{finds}
use Rattle.laws.proofs.Lists.{rest_is}
use Rattle.runs.proofs.Records.{front_fits, step_unknown, step_found, step_stopped}
use Rattle.runs.proofs.step_at.Goals as goal

pub returns-then-not-is_age : goal.returns-then-not-is_age
returns-then-not-is_age c = c.stays.ensures ∙ sym (step_unknown _ _ _ (sym (c.if-not-is_age.true) ∙ c.is_age.ensures))

pub slice_bounds-read_to-count : goal.slice_bounds-read_to-count
slice_bounds-read_to-count c = omega (arith, front_fits c.args.bytes.now c.args.offset _ (sym c.front_at.ensures ∙ c.in-Ok.is))

pub slice_bounds-read_to-start : goal.slice_bounds-read_to-start
slice_bounds-read_to-start c = omega (arith, front_fits c.args.bytes.now c.args.offset _ (sym c.front_at.ensures ∙ c.in-Ok.is))

-- the record's bytes are there
pub overflow_add-result : goal.overflow_add-result
overflow_add-result c = omega (arith, front_fits c.args.bytes.now c.args.offset _ (sym c.front_at.ensures ∙ c.in-Ok.is))

pub returns-in-Ok : goal.returns-in-Ok
returns-in-Ok c = let stands = sym c.front_at.ensures ∙ c.in-Ok.is in
    let fits = front_fits c.args.bytes.now c.args.offset _ stands in
    let here = drop c.args.offset c.args.bytes.now in
    let reads =
    c.read_to-record.ensures ∙ ap (read_to c.lesser-limit.result) (rest_is c.args.bytes.now c.args.offset)
    ∙ ap (λ (m : ℕ). read_to m here) c.lesser-limit.ensures ∙ read_aged c.args.age.0 _ here fits.0 fits.1 in
    ap (λ (r : ResTableConfig). finds (c.args.offset + c.in-Ok.n) r) reads
    ∙ sym (step_found c.args.age.0 c.args.bytes.now (sym (c.if-not-is_age.false) ∙ c.is_age.ensures) c.args.offset _ stands)

pub returns-in-Err : goal.returns-in-Err
returns-in-Err c = c.stays-in-Err.ensures
    ∙ sym (step_stopped c.args.age.0 c.args.bytes.now (sym (c.if-not-is_age.false) ∙ c.is_age.ensures) c.args.offset _
    (sym c.front_at.ensures ∙ c.in-Err.is))
