-- The format that is called for. Assumes nothing.
use Rattle.locale.specs.Locale.{locale_words}
use Rattle.locale.proofs.put_locale.Goals as goal

pub returns-then-is_new : goal.returns-then-is_new
unfolding locale_words
returns-then-is_new c = rw (← c.is_new.ensures, c.if-is_new.true) c.put_new.ensures

pub returns-else-is_new : goal.returns-else-is_new
unfolding locale_words
returns-else-is_new c = rw (← c.is_new.ensures, c.if-is_new.false) c.put_legacy.ensures
