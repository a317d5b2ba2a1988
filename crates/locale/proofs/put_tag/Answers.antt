-- Sign, language, script and region in a row. Assumes nothing.
use native.Mathlib.Omega.{arith}
use Rattle.subtag.proofs.Copying.{put_copy, copy_copy}
use Rattle.locale.proofs.Counts.{few}
use Rattle.locale.proofs.put_tag.Goals as goal

pub overflow_add-result : goal.overflow_add-result
overflow_add-result c = let f = few c.args.r _ c.well_formed.0 in
    omega (arith, c.put_own_language-language.ensures.counts, c.put_script-script.ensures.counts, f.language, f.script)

pub overflow_add-result-2 : goal.overflow_add-result-2
overflow_add-result-2 c = let f = few c.args.r _ c.well_formed.0 in
    omega (
      arith,
      c.put_own_language-language.ensures.counts,
      c.put_script-script.ensures.counts,
      c.put_own_region-region.ensures.counts,
      f.language,
      f.script,
      f.region,
    )

pub returns : goal.returns
returns c = let with-language = put_copy c.put-begun.ensures c.put_own_language-language.ensures in
    let with-script = copy_copy with-language c.put_script-script.ensures in
    copy_copy with-script c.put_own_region-region.ensures
