-- Any two outcomes that a contract of this crate allows for the same input are one: of `probe_blank`, `probe_order`, `probe_walk`,
-- `probe_row` and `probe_records` by `one_answer` of answers. Assumes nothing.
use Prim.Native.Nat.{ℕ}
use mathlib.Core.Path.{◌≡◌, sym, ◌∙◌}
use mathlib.Core.List.{List}
use Rattle.buffer.specs.Written.{Outcome}
use Rattle.lines.specs.Lines.{LineOutcome}
use Rattle.test_probe.specs.Probe.{Comes, cursor_packed}

-- of `probe_text`, whatever its amount n and the bytes b that it leaves are defined to be: the answer and the lent bytes are fixed
pub one_text : {n : ℕ} {b : List ℕ} (r s : ℕ) (x y : List ℕ) → (r ≡ n) × (x ≡ b) → (s ≡ n) × (y ≡ b) → (r ≡ s) × (x ≡ y)
one_text r s x y p q = (p.0 ∙ sym q.0, p.1 ∙ sym q.1)

-- of `probe_first_line`, `probe_line`, `probe_record_line` and `probe_write`, whatever their outcome o is defined to be
pub one_packed : (o : Outcome) (r s : ℕ) (x y : List ℕ) → Comes r x o → Comes s y o → (r ≡ s) × (x ≡ y)
one_packed o r s x y p q = one_text r s x y p q

-- of `probe_next`
pub one_next : (o : LineOutcome) (r s : ℕ) (x y : List ℕ)
    → (r ≡ cursor_packed o.goes) × (x ≡ o.does.leaves) → (s ≡ cursor_packed o.goes) × (y ≡ o.does.leaves) → (r ≡ s) × (x ≡ y)
one_next o r s x y p q = one_text r s x y p q
