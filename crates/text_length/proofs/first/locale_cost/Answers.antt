-- The locale is said unless its first byte is 0. Assumes nothing.
use native.Mathlib.Omega.{arith}
use Rattle.places.specs.Places.{places_of}
use Rattle.locale.specs.Locale.{locale_said, locale_words}
use Rattle.places.proofs.Laws.{some_said, none_said}
use Rattle.text_length.proofs.Total.{said_adds, silent_adds}
use Rattle.text_length.proofs.first.locale_cost.Goals as goal

pub returns-then-r-eq0-clause-result_value : goal.returns-then-r-eq0-clause-result_value
unfolding places_of
returns-then-r-eq0-clause-result_value c = silent_adds (locale_said c.args.r, locale_words c.args.r) (none_said _ c.if-r-eq0.true)

pub returns-clause-result_value : goal.returns-clause-result_value
unfolding places_of
returns-clause-result_value c = said_adds (locale_said c.args.r, locale_words c.args.r) (some_said _ c.if-r-eq0.false) (omega (arith, c.locale_length.ensures.value))

pub returns-clause-upper_bound : goal.returns-clause-upper_bound
unfolding places_of
returns-clause-upper_bound c = omega (arith, c.locale_length.ensures.upper_bound)
