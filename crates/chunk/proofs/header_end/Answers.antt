-- 1, 9 and 10 in their order, then where the header ends. Assumes nothing.
use mathlib.Core.Path.{sym, ap, ◌∙◌}
use borrow.Author.Rules.{rules}
use Rattle.answers.specs.Tells.{success}
use Rattle.chunk.proofs.Head.{sizes_read, head_few, head_type, head_sizes, head_stands}
use Rattle.chunk.proofs.header_end.Goals as goal

pub returns-then-bytes-lt-RECORD_AT : goal.returns-then-bytes-lt-RECORD_AT
returns-then-bytes-lt-RECORD_AT c = sym (head_few c.args.bytes.now _ _ c.if-bytes-lt-RECORD_AT.true)

pub returns-then-half-ne513 : goal.returns-then-half-ne513
returns-then-half-ne513 c = sym (head_type c.args.bytes.now _ _ c.if-bytes-lt-RECORD_AT.false c.half.result c.half.ensures.0 c.if-half-ne513.true)

pub returns-then-wrong_sizes : goal.returns-then-wrong_sizes
returns-then-wrong_sizes c = sym (head_sizes c.args.bytes.now _ _ c.if-bytes-lt-RECORD_AT.false _ c.half.ensures.0 c.if-half-ne513.false
    (sym c.if-wrong_sizes.true ∙ sizes_read c.args.bytes.now _ _ _ c.half-header.ensures.0 c.chunk_size.ensures c.wrong_sizes.ensures))

pub returns : goal.returns
returns c = ap success c.half-header.ensures.0
    ∙ sym (head_stands c.args.bytes.now _ _ c.if-bytes-lt-RECORD_AT.false _ c.half.ensures.0 c.if-half-ne513.false
    (sym c.if-wrong_sizes.false ∙ sizes_read c.args.bytes.now _ _ _ c.half-header.ensures.0 c.chunk_size.ensures c.wrong_sizes.ensures))
