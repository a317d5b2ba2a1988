-- A word that is 0 says nothing; else the version and its minor one. Assumes nothing.
use Prim.Native.Nat.{◌/◌, ◌%◌}
use mathlib.Core.List.{◌++◌}
use mathlib.Core.Path.{sym, ◌∙◌}
use native.Mathlib.Omega.{arith}
use lib.ListN.{length-append}
use Rattle.buffer.specs.Ascii.{ascii}
use Rattle.buffer.specs.Decimal.{decimal}
use Rattle.places.specs.Say.{say, say_all}
use Rattle.places.specs.Places.{minor_words, version_place, places_of}
use Rattle.places.proofs.Laws.{some_said}
use Rattle.text_length.proofs.Total.{said_adds, minor_long}
use Rattle.text_length.proofs.last.version_cost.Goals as goal

pub returns-then-r-eq0-clause-result_value : goal.returns-then-r-eq0-clause-result_value
unfolding places_of say_all say
returns-then-r-eq0-clause-result_value c = rw c.if-r-eq0.true

pub returns-clause-result_value : goal.returns-clause-result_value
unfolding places_of
returns-clause-result_value c = let sdk = decimal (c.args.r.version % 65536) in
    let minor = c.args.r.version / 65536 in
    let major = rw c.get_sdk_minor_version-version.ensures at c.digits.ensures.value in
    let dot = rw c.get_sdk_minor_version-version.ensures at c.number_cost.ensures.value in said_adds (version_place c.args.r) (some_said _ c.if-r-eq0.false)
    (omega (arith, major, dot ∙ sym (minor_long minor), length-append (ascii "v" ++ sdk) (minor_words minor)))

pub returns-clause-upper_bound : goal.returns-clause-upper_bound
unfolding places_of
returns-clause-upper_bound c = let sdk = decimal (c.args.r.version % 65536) in
    let minor = c.args.r.version / 65536 in
    let major = rw c.get_sdk_minor_version-version.ensures at c.digits.ensures.value in
    let dot = rw c.get_sdk_minor_version-version.ensures at c.number_cost.ensures.value in omega (arith, c.digits.ensures.upper_bound, c.number_cost.ensures.upper_bound)
