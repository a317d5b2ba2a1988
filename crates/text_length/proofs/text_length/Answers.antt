-- The locale alone, or the three parts of the text, one behind the other. Assumes nothing.
use mathlib.Core.Path.{sym, ap, ◌∙◌}
use lib.ListN.{length}
use Rattle.locale.specs.Locale.{locale_said, locale_words}
use Rattle.places.specs.Places.{places_of}
use Rattle.text_length.proofs.Total.{alone_adds}
use Rattle.text_length.proofs.Worded.{text_joined}
use Rattle.text_length.proofs.text_length.Goals as goal

pub returns-then-locale_alone : goal.returns-then-locale_alone
unfolding places_of
returns-then-locale_alone c = c.joined.ensures.value ∙ sym (ap length (c.locale_alone.ensures c.if-locale_alone.true) ∙ alone_adds (locale_said c.args.r, locale_words c.args.r) c.locale_cost-locale.ensures.result_value)

pub returns : goal.returns
returns c = rw (c.joined-2.ensures.value, c.joined-mode.ensures.value, c.joined-first.ensures.value)
    (sym (text_joined _ c.first_cost.ensures.result_value c.mode_cost.ensures.result_value c.last_cost.ensures.result_value))
