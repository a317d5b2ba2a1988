-- The parts of the new format in a row. Assumes nothing.
use native.Mathlib.Omega.{arith}
use Rattle.subtag.proofs.Copying.{copy_copy}
use Rattle.locale.specs.Locale.{new_words}
use Rattle.locale.proofs.Counts.{few, parts_new}
use Rattle.locale.proofs.put_new.Goals as goal

pub overflow_add-result : goal.overflow_add-result
overflow_add-result c = let f = few c.args.r _ c.well_formed.0 in
    omega (arith, c.put_tag-tag.ensures.counts, c.put_variant-longer.ensures.counts, f.language, f.script, f.region, f.variant)

pub overflow_add-result-2 : goal.overflow_add-result-2
overflow_add-result-2 c = let f = few c.args.r _ c.well_formed.0 in
    omega (
      arith,
      c.put_tag-tag.ensures.counts,
      c.put_variant-longer.ensures.counts,
      c.put_numbering-longest.ensures.counts,
      f.language,
      f.script,
      f.region,
      f.variant,
      f.numbering,
    )

pub returns : goal.returns
unfolding new_words
returns c = rw (parts_new c.args.r)
    (copy_copy (copy_copy c.put_tag-tag.ensures c.put_variant-longer.ensures) c.put_numbering-longest.ensures)
