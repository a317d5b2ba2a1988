-- 3 and the head's refusals, then the text of the record's part of the header. Assumes nothing.
use Prim.Native.Nat.{ℕ}
use mathlib.Core.Path.{sym, ap, ◌∙◌}
use mathlib.Core.List.{List}
use native.Mathlib.Omega.{arith}
use Rattle.std.specs.Prelude.{Ok, Err}
use Rattle.answers.proofs.Passed.{passed_on}
use Rattle.buffer.specs.Counted.{counted_outcome, counting}
use Rattle.locale.specs.Subtags.{text_replacements}
use Rattle.reading.specs.Reading.{aged}
use Rattle.text.specs.Counted.{counted_aged}
use Rattle.text.proofs.Answers.{refused-counted}
use Rattle.chunk.specs.Chunk.{record_part}
use Rattle.chunk.proofs.Answers.{aged_way, aged_header}
use Rattle.chunk.proofs.chunk_text.Goals as goal

pub slice_bounds-aged_text-count : goal.slice_bounds-aged_text-count
slice_bounds-aged_text-count c = let within = aged_header _ c.args.bytes.now _ c.in_ok-header.ensures in
    omega (arith, within.from, within.long)

pub slice_bounds-aged_text-start : goal.slice_bounds-aged_text-start
slice_bounds-aged_text-start c = let within = aged_header _ c.args.bytes.now _ c.in_ok-header.ensures in
    omega (arith, within.from, within.long)

pub slice_bounds-aged_text-end : goal.slice_bounds-aged_text-end
slice_bounds-aged_text-end c = omega (arith, (aged_header _ c.args.bytes.now _ c.in_ok-header.ensures).to)

pub returns : goal.returns
returns c = let holds = (aged_header c.args.age.0 c.args.bytes.now c.in_ok-header.header c.in_ok-header.ensures).holds in
    c.aged_text.ensures ∙ ap (λ (t : List ℕ). counted_aged c.args.age.0 t c.args.out.now) holds
    ∙ ap (counting (text_replacements (aged c.args.age.0 (record_part c.args.bytes.now))))
    (sym (aged_way c.args.age.0 c.args.bytes.now _ _ (Ok c.in_ok-header.header) c.in_ok-header.ensures))

pub returns-in_err-header : goal.returns-in_err-header
returns-in_err-header c = let why = c.in_err-header.field-0.0 in
    ap (λ r. counted_outcome r c.args.out.now) (passed_on c.from_residual.ensures.1)
    ∙ refused-counted why _ (sym (aged_way c.args.age.0 c.args.bytes.now _ _ (Err why) c.in_err-header.ensures))
