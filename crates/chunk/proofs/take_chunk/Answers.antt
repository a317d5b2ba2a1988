-- The head's refusals, then those of the record in its header, then the chunk's size. Assumes nothing.
use mathlib.Core.Path.{refl, sym, ap, ◌∙◌}
use native.Mathlib.Omega.{arith}
use Rattle.std.specs.Prelude.{Ok, Err}
use Rattle.answers.specs.Tells.{success, refusal, told_of}
use Rattle.answers.proofs.Passed.{passed_on}
use Rattle.reading.specs.Reading.{take_of}
use Rattle.reading.proofs.Whole.{took_whole, refused_whole}
use Rattle.chunk.specs.Chunk.{header_size}
use Rattle.chunk.proofs.Head.{head_way, in_header}
use Rattle.chunk.proofs.take_chunk.Goals as goal

pub slice_bounds-take-count : goal.slice_bounds-take-count
slice_bounds-take-count c = let within = in_header c.args.bytes.now (Ok c.in_ok-header.header) c.in_ok-header.ensures _ refl in
    omega (arith, within.from, within.long)

pub slice_bounds-take-start : goal.slice_bounds-take-start
slice_bounds-take-start c = let within = in_header c.args.bytes.now (Ok c.in_ok-header.header) c.in_ok-header.ensures _ refl in
    omega (arith, within.from, within.long)

pub slice_bounds-take-end : goal.slice_bounds-take-end
slice_bounds-take-end c = omega (arith, (in_header c.args.bytes.now (Ok c.in_ok-header.header) c.in_ok-header.ensures _ refl).to)

pub chunk_size-requires : goal.chunk_size-requires
chunk_size-requires c = (in_header c.args.bytes.now (Ok c.in_ok-header.header) c.in_ok-header.ensures _ refl).long

pub returns : goal.returns
returns c = let holds = (in_header c.args.bytes.now (Ok c.in_ok-header.header) c.in_ok-header.ensures _ refl).holds in
    ap success c.chunk_size.ensures
    ∙ sym (head_way c.args.bytes.now (header_size c.args.bytes.now) (Ok c.in_ok-header.header) c.in_ok-header.ensures refusal _
    ∙ took_whole _ _ _ c.in_ok-take.field-0 (c.in_ok-take.ensures ∙ ap take_of holds))

pub returns-in_err-header : goal.returns-in_err-header
returns-in_err-header c = ap told_of (passed_on c.from_residual.ensures.1)
    ∙ sym (head_way c.args.bytes.now (header_size c.args.bytes.now) (Err c.in_err-header.field-0.0) c.in_err-header.ensures refusal _)

pub returns-in_err-take : goal.returns-in_err-take
returns-in_err-take c = let holds = (in_header c.args.bytes.now (Ok c.in_ok-header.header) c.in_ok-header.ensures _ refl).holds in
    ap told_of (passed_on c.from_residual-in_err-take.ensures.1)
    ∙ sym (head_way c.args.bytes.now (header_size c.args.bytes.now) (Ok c.in_ok-header.header) c.in_ok-header.ensures refusal _
    ∙ refused_whole _ _ _ _ (c.in_err-take.ensures ∙ ap take_of holds))
