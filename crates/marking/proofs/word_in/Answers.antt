-- The word has the marks behind field f, and takes that of field f next. Assumes nothing.
use Prim.Native.Nat.{◌-◌}
use mathlib.Core.Path.{◌≡◌, ap, ◌∙◌}
use native.Mathlib.Omega.{arith}
use lib.ListN.{drop}
use Rattle.mark.specs.Word.{in_one_word}
use Rattle.mark.proofs.Words.{bits_below}
use Rattle.marking.specs.Marks.{word_in}
use Rattle.marking.proofs.Marking.{marks_from, field_room}
use Rattle.marking.proofs.word_in.Goals as goal

pub overflow_mul-word : goal.overflow_mul-word
overflow_mul-word c = let room = field_room c.args.age c.args.t c.args.bytes.now (c.loop-f.f - 1) c.loop-f.word (omega arith) (omega arith) c.loop-f.invariant in
    omega arith

pub overflow_add-word : goal.overflow_add-word
overflow_add-word c = let room = field_room c.args.age c.args.t c.args.bytes.now (c.loop-f.f - 1) c.loop-f.word (omega arith) (omega arith) c.loop-f.invariant in
    let bits = bits_below c.mark_of-mark.result in
    omega (arith, c.bits.ensures)

pub returns : goal.returns
unfolding word_in
returns c = let none : c.loop-f.f - 1 ≡ 0 = omega arith in
    c.loop-f.invariant ∙ ap (λ n. in_one_word (drop n (marks_from c.args.age c.args.t c.args.bytes.now))) none
