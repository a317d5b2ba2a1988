-- Demand 1 of the writer: when it is refused, and what 6 says. Assumes nothing.
use Rattle.std.specs.Prelude.{ℕ, ◌<◌, ◌≡◌, List, [], ◌∷◌, false, not, ◌↔◌}
use Rattle.answers.specs.declared.Refusal.{Refusal}
use Rattle.answers.specs.Demand1.{Condition}
use Rattle.buffer.specs.Demand1.{shorter_than, Refuses}
use Rattle.record.specs.declared.ResTableConfig.{ResTableConfig}
use Rattle.record.specs.Table.{all_zero}
use Rattle.reading.specs.Reading.{reads}
use Rattle.record.specs.Shape.{Shaped}
use Rattle.writing.specs.Writing.{bytes_of, span, tidy, write_of}

-- 6: a field that isn't read at the record's size isn't zero
abbrev pub unread_field : ResTableConfig → Condition
unread_field r = record { holds = not (tidy r); why = Refusal.UnreadField }

-- such a field
pub record Stray (r : ResTableConfig) : Type 0 where
  pub field : ℕ
  pub within : field < 15
  pub skipped : reads r.size field ≡ false
  pub filled : all_zero (bytes_of r field) ≡ false

-- a record isn't tidy exactly when there is such a field
abbrev pub UntidyWhenStray : ResTableConfig → Type 0
UntidyWhenStray r = (tidy r ≡ false) ↔ Stray r

-- `write` of a record, which takes T bytes: 6, 5; that the arrays of a record have the lengths of their types, `shape` shows of every one
abbrev pub WriterRefuses : ResTableConfig → List ℕ → Type 0
WriterRefuses r old = Shaped r → Refuses (unread_field r ∷ shorter_than (span r) old ∷ []) old (write_of r old)
