-- A word that is 0 says nothing, so that where all of them are 0 the locale is the whole text. Assumes nothing.
use mathlib.Core.Path.{sym}
use mathlib.Core.Bool.{true≢false}
use borrow.Author.Tests.{eqb-true}
use Rattle.places.specs.Say.{say, say_all}
use Rattle.places.specs.Places.{places_of, text_of}
use Rattle.text_length.proofs.locale_alone.Goals as goal

pub returns-then-r-ne0 : goal.returns-then-r-ne0
returns-then-r-ne0 c = λ e. absurd (true≢false (sym e))

pub returns-then-r-ne0-2 : goal.returns-then-r-ne0-2
returns-then-r-ne0-2 c = λ e. absurd (true≢false (sym e))

pub returns-then-r-ne0-3 : goal.returns-then-r-ne0-3
returns-then-r-ne0-3 c = λ e. absurd (true≢false (sym e))

pub returns-then-r-ne0-4 : goal.returns-then-r-ne0-4
returns-then-r-ne0-4 c = λ e. absurd (true≢false (sym e))

pub returns-then-r-ne0-5 : goal.returns-then-r-ne0-5
returns-then-r-ne0-5 c = λ e. absurd (true≢false (sym e))

pub returns-then-r-ne0-6 : goal.returns-then-r-ne0-6
returns-then-r-ne0-6 c = λ e. absurd (true≢false (sym e))

pub returns-then-r-ne0-7 : goal.returns-then-r-ne0-7
returns-then-r-ne0-7 c = λ e. absurd (true≢false (sym e))

pub returns : goal.returns
unfolding text_of places_of say_all say
returns c = λ e. rw (eqb-true c.args.r.screen_config_2 0 e, c.if-r-ne0-7.false, c.if-r-ne0-6.false, c.if-r-ne0-5.false, c.if-r-ne0-4.false, c.if-r-ne0-3.false, c.if-r-ne0-2.false, c.if-r-ne0.false)
