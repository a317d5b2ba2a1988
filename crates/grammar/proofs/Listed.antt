-- What holds of the rows of a table: by one computed test over all of them, or row by row. Assumes nothing.
use Prim.Native.Nat.{ℕ}
use mathlib.Core.Path.{◌≡◌}
use mathlib.Core.Bool.{Bool, true, ◌&&◌}
use mathlib.Core.List.{List, [], ◌∷◌, ◌++◌}
use Rattle.laws.proofs.Tests.{and_both}
use Rattle.laws.proofs.Lists.{Each}
use Rattle.grammar.specs.Forms.{Form}
use Rattle.grammar.specs.Rows.{Row, In}

-- whether each row passes a test
abbrev pub passes : (ℕ → Form → Bool) → List Row → Bool
passes test [] = true
passes test (r ∷ rs) = test r.0 r.1 && passes test rs

-- where each row passes, one that is listed does
pub row_passes : (test : ℕ → Form → Bool) (s : ℕ) (f : Form) (l : List Row) → passes test l ≡ true → In (s, f) l → test s f ≡ true
row_passes test s f l e (In.here {l = k}) = (and_both {a = test s f} {b = passes test k} e).0
row_passes test s f l e (In.there {y = r} {l = k} i) = row_passes test s f k (and_both {a = test r.0 r.1} {b = passes test k} e).1 i

-- what holds of a row, and then what holds of those behind it
pub and_then : {A B : Type 0} → A → B → A × B
and_then a b = (a, b)

module _ (P : Row → Type 0) where
  -- what holds of the rows of two tables holds of both, one behind the other
  pub each_append : (l m : List Row) → Each P l → Each P m → Each P (l ++ m)
  each_append [] m h k = k
  each_append (r ∷ l) m h k = (h.0, each_append l m h.1 k)

  -- what holds of each row holds of one that is listed
  pub each_in : (r : Row) (l : List Row) → Each P l → In r l → P r
  each_in r l h (In.here {l = k}) = h.0
  each_in r l h (In.there {y = y} {l = k} i) = each_in r k h.1 i
