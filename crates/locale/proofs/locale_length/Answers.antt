-- The parts of the format that is called for add up. Assumes nothing.
use mathlib.Core.Path.{◌≡◌, sym, ◌∙◌}
use native.Mathlib.Omega.{arith}
use lib.ListN.{length}
use Rattle.locale.specs.Locale.{locale_words, new_words, legacy_words}
use Rattle.locale.proofs.Long.{words_long, legacy_parts}
use Rattle.locale.proofs.locale_length.Goals as goal

pub returns-then-is_new-clause-value : goal.returns-then-is_new-clause-value
unfolding locale_words
returns-then-is_new-clause-value c = let e : length (locale_words c.args.r) ≡ length (new_words c.args.r) = rw (← c.is_new.ensures, c.if-is_new.true) in
    c.new_length.ensures ∙ sym e

pub returns-then-is_new-clause-upper_bound : goal.returns-then-is_new-clause-upper_bound
unfolding locale_words
returns-then-is_new-clause-upper_bound c = let e : length (locale_words c.args.r) ≡ length (new_words c.args.r) = rw (← c.is_new.ensures, c.if-is_new.true) in
    omega (arith, e, c.new_length.ensures, words_long c.args.r _ c.well_formed.0)

pub returns-clause-value : goal.returns-clause-value
unfolding locale_words
returns-clause-value c = let e : length (locale_words c.args.r) ≡ length (legacy_words c.args.r) = rw (← c.is_new.ensures, c.if-is_new.false) in
    omega (arith, e, legacy_parts c.args.r, c.own_language_length.ensures.0, c.own_region_length.ensures.0)
