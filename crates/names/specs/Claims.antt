-- 02, K5: what is claimed of reading a name, by the grammar. Assumes nothing.
use Rattle.std.specs.Prelude.{ℕ, ◌+◌, ◌≡◌, List, [], ◌∷◌, ◌++◌, false, ◌↔◌, length}
use Rattle.answers.specs.declared.Refusal.{Refusal}
use Rattle.record.specs.declared.ResTableConfig.{ResTableConfig}
use Rattle.record.specs.Ages.{default_age}
use Rattle.reading.specs.Reading.{parse_of, parse_took, parse_refused}
use Rattle.marking.specs.Marks.{held_back}
use Rattle.writing.specs.Writing.{bytes_written}
use Rattle.places.specs.Places.{text_of}
use Rattle.grammar.specs.Names.{with_dashes, Named}
use Rattle.names.specs.Reading.{parts_of}
use Rattle.names.specs.Named.{name_of}

-- a name is accepted exactly when the grammar has it, and then its record is the grammar's
abbrev pub AcceptedExactly : Type 0
AcceptedExactly = (s : List ℕ) (r : ResTableConfig) → (name_of s ≡ parse_took (length s) r) ↔ Named s r

-- no name stands for two records
abbrev pub OneRecord : Type 0
OneRecord = (s : List ℕ) (r q : ResTableConfig) → Named s r → Named s q → r ≡ q

-- no record has two names
abbrev pub OneName : Type 0
OneName = (s t : List ℕ) (r : ResTableConfig) → Named s r → Named t r → s ≡ t

-- the plain text of a name's record is the name again
abbrev pub NameAgain : Type 0
NameAgain = (s : List ℕ) (r : ResTableConfig) → Named s r → text_of r ≡ s

-- a name's record, written and read back, is the same record, of 64 bytes
abbrev pub RecordAgain : Type 0
RecordAgain = (s : List ℕ) (r : ResTableConfig) → Named s r → parse_of (bytes_written r) ≡ parse_took 64 r

-- a reader of the default age holds no name's record back (02, K7)
abbrev pub NameShown : Type 0
NameShown = (s : List ℕ) (r : ResTableConfig) → Named s r → held_back default_age (bytes_written r) ≡ false

-- the grammar has a name
pub record InGrammar (s : List ℕ) : Type 0 where
  pub stands : ResTableConfig
  pub named : Named s stands

-- where a part begins that stands behind others
unfoldable pub offset_of : List (List ℕ) → ℕ
offset_of [] = 0
offset_of (p ∷ ps) = length p + 1 + offset_of ps

-- o is the offset of the first part such that the name up to its end isn't in the grammar
pub record FirstAt (s : List ℕ) (o : ℕ) : Type 0 where
  pub before : List (List ℕ)
  pub part : List ℕ
  pub after : List (List ℕ)
  pub parts : parts_of s ≡ before ++ (part ∷ after)
  pub offset : o ≡ offset_of before
  pub ends : InGrammar (with_dashes (before ++ (part ∷ []))) → ⊥
  pub first : (qs rs : List (List ℕ)) → before ≡ qs ++ rs → InGrammar (with_dashes qs)

-- 11 comes at an offset exactly when that is it
abbrev pub RefusedExactly : Type 0
RefusedExactly = (s : List ℕ) (o : ℕ) → (name_of s ≡ parse_refused (Refusal.NotAName o)) ↔ FirstAt s o
