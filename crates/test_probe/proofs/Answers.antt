-- What the probes answer, from what the calls under them answer. Assumes nothing.
use Prim.Native.Nat.{ℕ}
use mathlib.Core.Path.{◌≡◌, sym, ap, ◌∙◌}
use mathlib.Core.List.{List}
use Rattle.answers.specs.declared.Refusal.{Refusal}
use Rattle.std.specs.Prelude.{Result, Ok}
use Rattle.answers.specs.declared.Told.{Told}
use Rattle.answers.specs.Tells.{success, told_of, packed_of}
use Rattle.buffer.specs.Written.{Outcome, outcome}
use Rattle.record.specs.declared.ResTableConfig.{ResTableConfig}
use Rattle.record.specs.Blank.{with_size}
use Rattle.reading.specs.declared.Parsed.{Parsed}
use Rattle.reading.specs.Reading.{ParseOutcome, parsed_outcome, parse_of, take_of, plain}
use Rattle.reading.proofs.Whole.{took_whole}
use Rattle.reading.proofs.Exactly.{parse_tells}
use Rattle.writing.specs.Writing.{write_of}
use Rattle.lines.specs.declared.Lined.{Lined}
use Rattle.lines.specs.Lines.{LineOutcome, lined_outcome}
use Rattle.test_probe.specs.Probe.{Comes, cursor_packed, write_sized}

-- what a call that writes tells, packed, and the bytes that are left
pub comes : (w : Result ℕ Refusal) (new : List ℕ) (o : Outcome) (t : Told) (r : ℕ) → outcome w new ≡ o → t ≡ told_of w → r ≡ packed_of t → Comes r new o
comes w new o t r e f g = (g ∙ ap packed_of (f ∙ ap (λ (x : Outcome). x.tells) e), ap (λ (x : Outcome). x.leaves) e)

-- of a call for a line
module _ (l : Lined) (new : List ℕ) (o : LineOutcome) (e : lined_outcome l new ≡ o) where
  -- what it tells, packed
  pub line-comes : (t : Told) (r : ℕ) → t ≡ told_of l.answer → r ≡ packed_of t → Comes r new o.does
  line-comes t r f g = comes l.answer new o.does t r (ap (λ (x : LineOutcome). x.does) e) f g

  -- where the listing goes on
  pub line-goes : (r : ℕ) → r ≡ cursor_packed l.cursor → (r ≡ cursor_packed o.goes) × (new ≡ o.does.leaves)
  line-goes r g = (g ∙ ap (λ (x : LineOutcome). cursor_packed x.goes) e, ap (λ (x : LineOutcome). x.does.leaves) e)

-- of writing with another size: what the writer makes of the record that is there
pub sized-whole : (s old : List ℕ) (size : ℕ) (p : Parsed) (r : ResTableConfig) (o : Outcome) → parsed_outcome (Ok p) ≡ parse_of s
    → r ≡ with_size p.«record» size → o ≡ write_of r old → o ≡ write_sized s size old
sized-whole s old size p r o e f h =
    let t : success p.taken ≡ take_of s = ap (λ (x : ParseOutcome). x.tells) e ∙ parse_tells s in
    let is : p.«record» ≡ plain s = ap (λ (x : ParseOutcome). x.gives) (e ∙ took_whole s _ _ p.taken t) in
    h ∙ rw (f, is) (sym (took_whole s _ _ p.taken t))
