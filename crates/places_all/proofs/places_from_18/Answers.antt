-- A word that is 0 says nothing; else the places in a row. Assumes nothing.
use Rattle.places.proofs.Laws.{says_more}
use Rattle.places.specs.Say.{say, say_all}
use Rattle.places.specs.Places.{places_of}
use Rattle.places_first.proofs.Silent.{says_none}
use Rattle.places_all.proofs.places_from_18.Goals as goal

pub returns-then-r-eq0 : goal.returns-then-r-eq0
unfolding places_of say_all say
returns-then-r-eq0 c = says_none _ (λ t. rw c.if-r-eq0.true)

pub returns : goal.returns
unfolding places_of
returns c = says_more (rw c.get_keyboard_navigation_input_flags-input.ensures at (rw c.from.ensures at c.kind_place-a.ensures))
    (says_more (rw c.get_keyboard_navigation_input_flags-input.ensures at (rw c.from-2.ensures at c.kind_place-b.ensures))
    (says_more (rw c.get_keyboard_navigation_input_flags-input.ensures at (rw c.from-3.ensures at c.kind_place-c.ensures)) (rw c.get_keyboard_navigation_input_flags-input.ensures at (rw c.from-4.ensures at c.kind_place.ensures))))
