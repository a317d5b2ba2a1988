-- Any two outcomes that a contract allows for the same input are one. Assumes nothing.
use Prim.Native.Nat.{ℕ}
use mathlib.Core.Path.{◌≡◌, sym, ap, ◌∙◌}
use mathlib.Core.List.{List}
use Rattle.std.specs.Prelude.{Result, Ok, Err}
use Rattle.answers.specs.declared.Refusal.{Refusal}
use Rattle.buffer.specs.Written.{outcome, written}
use Rattle.buffer.proofs.OneOutcome.{one_outcome}
use Rattle.runs.specs.declared.Stop.{Stop}
use Rattle.lines.specs.declared.Cursor.{Cursor}
use Rattle.lines.specs.declared.Lined.{Lined}
use Rattle.lines.specs.Lines.{LineOutcome, age_line, stop_line, lined_outcome, line_of}

pub one_first : {c d : Cursor} → c ≡ Cursor.Start → d ≡ Cursor.Start → c ≡ d
one_first p q = p ∙ sym q

pub one_age_line : (a : ℕ) (old : List ℕ) {r s : Result ℕ Refusal} {x y : List ℕ} → outcome r x ≡ written (age_line a) old → outcome s y ≡ written (age_line a) old → (r ≡ s) × (x ≡ y)
one_age_line a old p q = one_outcome p q

pub one_stop_line : (offset : ℕ) (stop : Stop) (old : List ℕ) {r s : Result ℕ Refusal} {x y : List ℕ}
    → outcome r x ≡ written (stop_line offset stop) old → outcome s y ≡ written (stop_line offset stop) old → (r ≡ s) × (x ≡ y)
one_stop_line offset stop old p q = one_outcome p q

same : (r s : Lined) → r.answer ≡ s.answer → r.cursor ≡ s.cursor → r ≡ s
same r s p q = λ i. record { answer = p i; cursor = q i }

-- the answer, the cursor and the lent bytes are fixed
pub one_line : (a : ℕ) (bytes : List ℕ) (c : Cursor) (old : List ℕ) {r s : Lined} {x y : List ℕ}
    → lined_outcome r x ≡ line_of a bytes c old → lined_outcome s y ≡ line_of a bytes c old → (r ≡ s) × (x ≡ y)
one_line a bytes c old {r} {s} p q =
    let e = p ∙ sym q in
    let o = one_outcome (ap (λ (z : LineOutcome). z.does) p) (ap (λ (z : LineOutcome). z.does) q) in
    (same r s o.0 (ap (λ (z : LineOutcome). z.goes) e), o.1)
