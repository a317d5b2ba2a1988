-- 02, K1: what is claimed of the replacements that go along with a text. Assumes nothing.
use Rattle.std.specs.Prelude.{ℕ, ◌≡◌, List, ◌∷◌, ◌++◌, ◌↔◌}
use Rattle.subtag.specs.Replacements.{WellFormedUtf8}
use Rattle.subtag.specs.Subtag.{drop_nuls}
use Rattle.record.specs.declared.ResTableConfig.{ResTableConfig}
use Rattle.locale.specs.Subtags.{text_subtags, text_replacements}
use Rattle.places.specs.Places.{text_of}
use Rattle.text.specs.Text.{aged_text}
use Rattle.text.specs.Counted.{counted_aged}

-- a subtag is one of some
pub data OneOf (s : List ℕ) : List (List ℕ) → Type 0 where
  here : {l : List (List ℕ)} → OneOf s (s ∷ l)
  there : {t : List ℕ} {l : List (List ℕ)} → OneOf s l → OneOf s (t ∷ l)

-- u stands in w
pub record Holds (w u : List ℕ) : Type 0 where
  pub front : List ℕ
  pub back : List ℕ
  pub is : w ≡ front ++ u ++ back

-- a text's count is 0 exactly when every subtag that it writes is well-formed
abbrev pub NoneWhenWellFormed : ResTableConfig → Type 0
NoneWhenWellFormed r = (text_replacements r ≡ 0) ↔ ((s : List ℕ) → OneOf s (text_subtags r) → WellFormedUtf8 s)

-- then the text holds the record's own bytes of each, up to the NULs at the end
abbrev pub HoldsOwnBytes : ResTableConfig → Type 0
HoldsOwnBytes r = text_replacements r ≡ 0 → (s : List ℕ) → OneOf s (text_subtags r) → Holds (text_of r) (drop_nuls s)

-- where readers of two ages both show the text of a record, their counts agree
abbrev pub CountsAgree : Type 0
CountsAgree =
    (older newer : ℕ) (s x y : List ℕ) → (aged_text older s x).tells.number ≡ 0 → (aged_text newer s y).tells.number ≡ 0
    → (counted_aged older s x).replacements ≡ (counted_aged newer s y).replacements
