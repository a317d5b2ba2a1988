-- The chunk's refusals and 5, then ten bytes in two parts. Assumes nothing.
use mathlib.Core.Path.{refl, sym, ap, ◌∙◌}
use native.Mathlib.Omega.{arith}
use Rattle.std.specs.Prelude.{Ok, Err}
use Rattle.answers.proofs.Passed.{passed_on}
use Rattle.buffer.specs.Written.{outcome, refused, written}
use Rattle.buffer.proofs.Putting.{put_put}
use Rattle.buffer.proofs.Writing.{written_short}
use Rattle.chunk.specs.Chunk.{head_shown}
use Rattle.chunk.proofs.Head.{chunk_way, chunk_long, shown_long}
use Rattle.chunk.proofs.Answers.{wrote-all}
use Rattle.chunk.proofs.chunk_head.Goals as goal

pub returns-then-out-lt-SHOWN : goal.returns-then-out-lt-SHOWN
returns-then-out-lt-SHOWN c = let took = c.in_ok-take_chunk.ensures in
    let long = shown_long c.args.bytes.now (chunk_long c.args.bytes.now (Ok c.in_ok-take_chunk.field-0) took _ refl) in
    sym (chunk_way c.args.bytes.now (Ok c.in_ok-take_chunk.field-0) took (λ why. refused why c.args.out.now) (λ n. written (head_shown c.args.bytes.now) c.args.out.now)
    ∙ written_short _ _ (omega (arith, long, c.if-out-lt-SHOWN.true)))

-- the head's bytes are there
pub slice_bounds-put-end : goal.slice_bounds-put-end
slice_bounds-put-end c = omega (arith, chunk_long c.args.bytes.now (Ok c.in_ok-take_chunk.field-0) c.in_ok-take_chunk.ensures _ refl)

pub slice_bounds-put-end-2 : goal.slice_bounds-put-end-2
slice_bounds-put-end-2 c = omega (arith, chunk_long c.args.bytes.now (Ok c.in_ok-take_chunk.field-0) c.in_ok-take_chunk.ensures _ refl)

pub returns : goal.returns
returns c = let took = c.in_ok-take_chunk.ensures in
    let long = shown_long c.args.bytes.now (chunk_long c.args.bytes.now (Ok c.in_ok-take_chunk.field-0) took _ refl) in
    wrote-all {w = head_shown c.args.bytes.now} long c.if-out-lt-SHOWN.false (put_put c.put-at.ensures c.put.ensures)
    ∙ sym (chunk_way c.args.bytes.now (Ok c.in_ok-take_chunk.field-0) took (λ why. refused why c.args.out.now) (λ n. written (head_shown c.args.bytes.now) c.args.out.now))

pub returns-in_err-take_chunk : goal.returns-in_err-take_chunk
returns-in_err-take_chunk c = ap (λ r. outcome r c.args.out.now) (passed_on c.from_residual.ensures.1)
    ∙ sym (chunk_way c.args.bytes.now (Err c.in_err-take_chunk.field-0.0) c.in_err-take_chunk.ensures (λ why. refused why c.args.out.now)
    (λ n. written (head_shown c.args.bytes.now) c.args.out.now))
