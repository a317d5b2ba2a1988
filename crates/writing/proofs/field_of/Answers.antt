-- Each arm gives the bytes of its field. Assumes nothing.
use mathlib.Core.Path.{◌≡◌, ap, ◌∙◌}
use native.Mathlib.Omega.{arith}
use lib.ListN.{length, take}
use lib.Seq.{take_all}
use Rattle.laws.proofs.Lists.{elements}
use Rattle.writing.specs.Writing.{bytes_of}
use Rattle.writing.proofs.Arms.{arm}
use Rattle.record.proofs.Shapes.{shaped}
use borrow.Author.Rules.{rules}
use Rattle.writing.proofs.field_of.Goals as goal

pub returns-in-0 : goal.returns-in-0
unfolding bytes_of
returns-in-0 c = arm c.args.r 0 c.args.f _ (omega arith) (ap (take 4) c.word_bytes.ensures)

pub returns-in-1 : goal.returns-in-1
unfolding bytes_of
returns-in-1 c = arm c.args.r 1 c.args.f _ (omega arith) (ap (take 4) c.word_bytes-in-1.ensures)

pub returns-in-2 : goal.returns-in-2
unfolding bytes_of
returns-in-2 c = arm c.args.r 2 c.args.f _ (omega arith) (ap (take 4) c.word_bytes-in-2.ensures)

pub returns-in-3 : goal.returns-in-3
unfolding bytes_of
returns-in-3 c = arm c.args.r 3 c.args.f _ (omega arith) (ap (take 4) c.word_bytes-in-3.ensures)

pub returns-in-4 : goal.returns-in-4
unfolding bytes_of
returns-in-4 c = arm c.args.r 4 c.args.f _ (omega arith) (ap (take 4) c.word_bytes-in-4.ensures)

pub returns-in-5 : goal.returns-in-5
unfolding bytes_of
returns-in-5 c = arm c.args.r 5 c.args.f _ (omega arith) (ap (take 4) c.word_bytes-in-5.ensures)

pub returns-in-6 : goal.returns-in-6
unfolding bytes_of
returns-in-6 c = arm c.args.r 6 c.args.f _ (omega arith) (ap (take 4) c.word_bytes-in-6.ensures)

pub returns-in-7 : goal.returns-in-7
unfolding bytes_of
returns-in-7 c = arm c.args.r 7 c.args.f _ (omega arith) (ap (take 4) c.word_bytes-in-7.ensures)

pub returns-in-8 : goal.returns-in-8
unfolding bytes_of
returns-in-8 c = arm c.args.r 8 c.args.f _ (omega arith) (ap (take 4) c.word_bytes-in-8.ensures)

pub returns-in-9 : goal.returns-in-9
unfolding bytes_of
returns-in-9 c = arm c.args.r 9 c.args.f _ (omega arith)
    (ap (take 4) c.four.ensures ∙ elements 4 c.args.r.locale_script (search rules))

pub returns-in-10 : goal.returns-in-10
unfolding bytes_of
returns-in-10 c = let l : length c.args.r.locale_variant ≡ 8 = search rules in
    arm c.args.r 10 c.args.f c.args.r.locale_variant (omega arith) (take_all 8 c.args.r.locale_variant (omega arith))

pub returns-in-11 : goal.returns-in-11
unfolding bytes_of
returns-in-11 c = arm c.args.r 11 c.args.f _ (omega arith) (ap (take 4) c.word_bytes-in-11.ensures)

pub returns-in-12 : goal.returns-in-12
unfolding bytes_of
returns-in-12 c = arm c.args.r 12 c.args.f _ (omega arith) (ap (take 1) c.one.ensures)

pub returns-in-13 : goal.returns-in-13
unfolding bytes_of
returns-in-13 c = let l : length c.args.r.locale_numbering_system ≡ 8 = search rules in
    arm c.args.r 13 c.args.f c.args.r.locale_numbering_system (omega arith) (take_all 8 c.args.r.locale_numbering_system (omega arith))

pub returns-in_default : goal.returns-in_default
unfolding bytes_of
returns-in_default c = arm c.args.r 14 _ _ (omega arith)
    (ap (take 3) c.three.ensures ∙ elements 3 c.args.r.end_padding (shaped c.args.r _ c.well_formed.0).padding)
