-- Language and region in a row. Assumes nothing.
use native.Mathlib.Omega.{arith}
use Rattle.subtag.proofs.Copying.{copy_copy}
use Rattle.locale.specs.Locale.{legacy_words}
use Rattle.locale.proofs.Counts.{few, parts_legacy}
use Rattle.locale.proofs.put_legacy.Goals as goal

pub overflow_add-result : goal.overflow_add-result
overflow_add-result c = let f = few c.args.r _ c.well_formed.0 in
    omega (
      arith,
      c.put_own_language-language.ensures.counts,
      c.put_own_region-region.ensures.counts,
      f.language,
      f.region,
    )

pub returns : goal.returns
unfolding legacy_words
returns c = rw (parts_legacy c.args.r c.requires)
    (copy_copy c.put_own_language-language.ensures c.put_own_region-region.ensures)
