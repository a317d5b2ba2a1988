-- 3 first, then the exact end; else what `parse_chunk` gives of the bytes from the offset on. Assumes nothing.
use Prim.Native.Nat.{◌+◌}
use mathlib.Core.Path.{refl, sym, ap, ◌∙◌}
use Rattle.std.specs.Prelude.{Ok, Err}
use native.Mathlib.Omega.{arith}
use borrow.Author.Rules.{rules}
use borrow.Author.Tests.{not-true, not-false}
use Rattle.laws.proofs.Lists.{rest_from}
use Rattle.record.specs.declared.ResTableConfig.{ResTableConfig}
use Rattle.runs.specs.Fronts.{finds}
use Rattle.runs.proofs.Along.{at_end, within, unknown, finds_one, finds_none}
use Rattle.chunk_runs.proofs.Chunks.{chunk_run, chunk_steps, parsed_front, parsed_record}
use Rattle.chunk_runs.proofs.chunk_step_at.Goals as goal

pub returns-then-not-is_age : goal.returns-then-not-is_age
returns-then-not-is_age c = c.stays.ensures
    ∙ sym (unknown (chunk_steps c.args.age.0 c.args.bytes.now) c.args.offset (sym (c.if-not-is_age.true) ∙ c.is_age.ensures))

pub returns-then-offset-bytes : goal.returns-then-offset-bytes
returns-then-offset-bytes c = c.stays-then-offset-bytes.ensures
    ∙ sym (finds_none (chunk_steps c.args.age.0 c.args.bytes.now) (sym (c.if-not-is_age.false) ∙ c.is_age.ensures) c.args.offset _
    (at_end (chunk_run c.args.bytes.now) c.args.offset c.if-offset-bytes.true))

-- the chunk's bytes are there
pub overflow_add-result : goal.overflow_add-result
overflow_add-result c = let age = sym (c.if-not-is_age.false) ∙ c.is_age.ensures in
    let there = rest_from c.args.bytes.now c.args.offset _ c.lesser-from.ensures in
    let front = parsed_front c.args.age.0 c.args.bytes.now c.args.offset age _ there (Ok c.in-Ok.parsed) c.in-Ok.ensures c.if-offset-bytes.false (Ok c.in-Ok.parsed.taken) refl in
    omega (arith, within (chunk_run c.args.bytes.now) c.args.offset _ front)

pub returns-in-Ok : goal.returns-in-Ok
returns-in-Ok c = let age = sym (c.if-not-is_age.false) ∙ c.is_age.ensures in
    let there = rest_from c.args.bytes.now c.args.offset _ c.lesser-from.ensures in
    let front = parsed_front c.args.age.0 c.args.bytes.now c.args.offset age _ there (Ok c.in-Ok.parsed) c.in-Ok.ensures c.if-offset-bytes.false (Ok c.in-Ok.parsed.taken) refl in
    let gives = parsed_record c.args.age.0 c.args.bytes.now c.args.offset age _ there (Ok c.in-Ok.parsed) c.in-Ok.ensures c.in-Ok.parsed.taken refl in
    ap (λ (r : ResTableConfig). finds (c.args.offset + c.in-Ok.parsed.taken) r) gives ∙ sym (finds_one (chunk_steps c.args.age.0 c.args.bytes.now) age c.args.offset _ front)

pub returns-in-Err : goal.returns-in-Err
returns-in-Err c = let age = sym (c.if-not-is_age.false) ∙ c.is_age.ensures in
    let there = rest_from c.args.bytes.now c.args.offset _ c.lesser-from.ensures in
    let front = parsed_front c.args.age.0 c.args.bytes.now c.args.offset age _ there (Err c.in-Err.why) c.in-Err.ensures c.if-offset-bytes.false (Err c.in-Err.why) refl in
    c.stays-in-Err.ensures ∙ sym (finds_none (chunk_steps c.args.age.0 c.args.bytes.now) age c.args.offset _ front)
