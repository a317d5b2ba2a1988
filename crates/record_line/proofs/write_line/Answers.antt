-- The row shows what is read of the record, with its text in the own buffer, which holds it; it is put where it fits. Assumes nothing.
use mathlib.Core.Path.{sym, ◌∙◌}
use native.Mathlib.Omega.{arith}
use lib.Seq.{length-take-le}
use borrow.Author.Rules.{rules}
use borrow.Author.Tests.{leb-true, leb-false}
use Rattle.buffer.proofs.Putting.{put_most}
use Rattle.buffer.proofs.Writing.{written_short}
use Rattle.record.specs.Table.{Bytes}
use Rattle.text.proofs.Answers.{put-fits}
use Rattle.record_line.proofs.Answers.{row_is, row-length}
use Rattle.record_line.proofs.Bounds.{any_long}
use Rattle.record_line.proofs.write_line.Goals as goal

pub slice_bounds-own-end : goal.slice_bounds-own-end
slice_bounds-own-end c = (put_most c.put_unless_held-copied.ensures.puts (search rules)).1

pub slice_bounds-text-end : goal.slice_bounds-text-end
slice_bounds-text-end c = sym (length-take-le _ _ (put_most c.put_unless_held-copied.ensures.puts (search rules)).1)

pub row_fits-requires : goal.row_fits-requires
row_fits-requires c = let bytes : Bytes c.args.bytes.now = λ i. omega (arith, c.shared_slice_known-1.given i) in
    rw (row-length c.args.age.0 c.args.t c.args.index c.args.offset c.args.bytes.now c.lesser.ensures c.read_to-r.ensures
    c.late_bytes-held.ensures bytes (search rules) c.put_unless_held-copied.ensures)
    (any_long c.args.age.0 c.args.t c.args.index c.args.offset c.args.bytes.now bytes (omega arith) (omega arith))

pub returns-then-not-row_fits : goal.returns-then-not-row_fits
returns-then-not-row_fits c = let bytes : Bytes c.args.bytes.now = λ i. omega (arith, c.shared_slice_known-1.given i) in
    let long = row-length c.args.age.0 c.args.t c.args.index c.args.offset c.args.bytes.now c.lesser.ensures c.read_to-r.ensures
    c.late_bytes-held.ensures bytes (search rules) c.put_unless_held-copied.ensures in
    let short = leb-false _ _ (sym c.row_fits.ensures ∙ c.if-not-row_fits.true) in
    sym (written_short _ _ (rw (← long) short))

pub returns : goal.returns
returns c = let bytes : Bytes c.args.bytes.now = λ i. omega (arith, c.shared_slice_known-1.given i) in
    let long = row-length c.args.age.0 c.args.t c.args.index c.args.offset c.args.bytes.now c.lesser.ensures c.read_to-r.ensures
    c.late_bytes-held.ensures bytes (search rules) c.put_unless_held-copied.ensures in
    let line = row_is c.args.age.0 c.args.t c.args.index c.args.offset c.args.bytes.now c.lesser.ensures c.read_to-r.ensures
    c.late_bytes-held.ensures bytes (search rules) c.put_unless_held-copied.ensures in
    let fits = leb-true _ _ (sym c.row_fits.ensures ∙ c.if-not-row_fits.false) in
    put-fits (rw (← long) fits) (rw (← line) c.put_row.ensures)
