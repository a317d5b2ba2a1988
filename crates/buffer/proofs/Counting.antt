-- Laws of `counting`. Assumes nothing.
use Prim.Native.Nat.{ℕ}
use mathlib.Core.Path.{◌≡◌, sym, ap, ◌∙◌}
use mathlib.Core.Bool.{cond}
use mathlib.Core.List.{List}
use native.Mathlib.Omega.{arith}
use lib.Dec.{eqb}
use borrow.Author.Tests.{ne_eqb}
use Rattle.answers.specs.declared.Refusal.{Refusal}
use Rattle.std.specs.Prelude.{Result, Ok, Err}
use Rattle.answers.specs.Counted.{counted_with}
use Rattle.answers.specs.Numbers.{number_of}
use Rattle.answers.proofs.OneToOne.{number_pos}
use Rattle.buffer.specs.Written.{Outcome, outcome, refused}
use Rattle.buffer.specs.Counted.{counted_outcome, counting}

-- a refused call made no replacements
pub refused_none : (why : Refusal) (n : ℕ) → cond (eqb (number_of why) 0) n 0 ≡ 0
refused_none why n = rw (ne_eqb (number_of why) 0 (λ e. omega (arith, number_pos why)))

-- what goes along with an answer that was given
pub answer_counted : (n : ℕ) (answer : Result ℕ Refusal) {new : List ℕ} {o : Outcome}
    → outcome answer new ≡ o → counted_outcome (counted_with n answer) new ≡ counting n o
answer_counted n (Ok m) e = ap (counting n) e
answer_counted n (Err why) {new} e =
    ap (λ (k : ℕ). record { does = refused why new; replacements = k }) (sym (refused_none why n)) ∙ ap (counting n) e
