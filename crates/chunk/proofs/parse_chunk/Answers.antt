-- 3 and the chunk's refusals, then the record's part of the header, read as the age reads it. Assumes nothing.
use Prim.Native.Nat.{ℕ}
use mathlib.Core.Path.{refl, sym, ap, ap₂, ◌∙◌}
use mathlib.Core.List.{List}
use native.Mathlib.Omega.{arith}
use Rattle.std.specs.Prelude.{Ok, Err, min}
use Rattle.answers.proofs.Passed.{passed_on}
use Rattle.reading.specs.Reading.{parsed_outcome, parse_took, take_of}
use Rattle.reading.specs.ReadTo.{read_to}
use Rattle.reading.proofs.Going.{end_passed, ended, end_is, took}
use Rattle.reading.proofs.Limits.{read_aged}
use Rattle.reading.proofs.Whole.{took_says, refused_whole}
use Rattle.chunk.specs.Chunk.{header_size}
use Rattle.chunk.proofs.Head.{head_way, in_header}
use Rattle.chunk.proofs.parse_chunk.Goals as goal

pub slice_bounds-part-count : goal.slice_bounds-part-count
slice_bounds-part-count c = let within = in_header c.args.bytes.now (Ok c.in_ok-header.header) c.in_ok-header.ensures _ refl in
    omega (arith, within.from, within.long)

pub slice_bounds-part-start : goal.slice_bounds-part-start
slice_bounds-part-start c = let within = in_header c.args.bytes.now (Ok c.in_ok-header.header) c.in_ok-header.ensures _ refl in
    omega (arith, within.from, within.long)

pub slice_bounds-part-end : goal.slice_bounds-part-end
slice_bounds-part-end c = omega (arith, (in_header c.args.bytes.now (Ok c.in_ok-header.header) c.in_ok-header.ensures _ refl).to)

pub chunk_size-requires : goal.chunk_size-requires
chunk_size-requires c = (in_header c.args.bytes.now (Ok c.in_ok-header.header) c.in_ok-header.ensures _ refl).long

pub returns : goal.returns
returns c =
    let holds = (in_header c.args.bytes.now (Ok c.in_ok-header.header) c.in_ok-header.ensures _ refl).holds in
    let told = c.in_ok-taken.ensures ∙ ap take_of holds in
    let says = took_says _ _ told in
    let limit = c.lesser.ensures ∙ ap (min c.in_ok-taken.taken) (end_is _ _ c.in_ok-end.ensures) in
    ap₂ parse_took c.chunk_size.ensures (c.read_to.ensures ∙ ap₂ read_to limit holds ∙ read_aged _ _ _ says.0 says.1)
    ∙ sym (ended _ _ _ _ c.in_ok-end.ensures ∙ head_way c.args.bytes.now (header_size c.args.bytes.now) (Ok c.in_ok-header.header) c.in_ok-header.ensures _ _
    ∙ took _ _ _ _ told)

pub returns-in_err-end : goal.returns-in_err-end
returns-in_err-end c = end_passed parsed_outcome _ _ _ c.in_err-end.ensures c.from_residual.ensures.1

pub returns-in_err-header : goal.returns-in_err-header
returns-in_err-header c = ap parsed_outcome (passed_on c.from_residual-in_err-header.ensures.1)
    ∙ sym (ended _ _ _ _ c.in_ok-end.ensures ∙ head_way c.args.bytes.now (header_size c.args.bytes.now) (Err c.in_err-header.field-0.0) c.in_err-header.ensures _ _)

pub returns-in_err-taken : goal.returns-in_err-taken
returns-in_err-taken c = let holds = (in_header c.args.bytes.now (Ok c.in_ok-header.header) c.in_ok-header.ensures _ refl).holds in
    ap parsed_outcome (passed_on c.from_residual-in_err-taken.ensures.1)
    ∙ sym (ended _ _ _ _ c.in_ok-end.ensures ∙ head_way c.args.bytes.now (header_size c.args.bytes.now) (Ok c.in_ok-header.header) c.in_ok-header.ensures _ _
    ∙ refused_whole _ _ _ _ (c.in_err-taken.ensures ∙ ap take_of holds))
