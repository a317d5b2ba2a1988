-- 02, K2: where a record is cut that has 16 bytes or more, and fewer than its size. Assumes nothing.
use Rattle.std.specs.Prelude.{ℕ, ◌≤◌, ◌<◌, ◌≡◌, Bool, cond, ◌&&◌, ◌↔◌, leb, ltb}
use Rattle.answers.specs.declared.Refusal.{Refusal}
use Rattle.laws.specs.Below.{least_below}
use Rattle.record.specs.Table.{end_of}

-- field f is cut in n bytes of a record of that size: the size holds it, and it ends past the bytes
abbrev pub cut_at : ℕ → ℕ → ℕ → Bool
cut_at n size f = leb (end_of f) size && ltb n (end_of f)

-- the row of the first of the fifteen fields that is cut; 15 where none is
abbrev pub cut_row : ℕ → ℕ → ℕ
cut_row n size = least_below 15 (cut_at n size)

-- why n bytes are no record of that size: 2 with the row of the first field that is cut, or 8, as only undecoded bytes are lacking
unfoldable pub lacking : ℕ → ℕ → Refusal
lacking n size = cond (ltb (cut_row n size) 15) (Refusal.FieldCut (cut_row n size)) Refusal.UndecodedCut

-- row f is the first that is cut: the size holds the field, it ends past the bytes, and no earlier field that the size holds does
pub record FirstCut (n size f : ℕ) : Type 0 where
  pub row : f < 15
  pub held : end_of f ≤ size
  pub past : n < end_of f
  pub first : (g : ℕ) → g < f → end_of g ≤ size → end_of g ≤ n

-- no field is cut: each that the size holds ends within the bytes
abbrev pub NoneCut : ℕ → ℕ → Type 0
NoneCut n size = (f : ℕ) → f < 15 → end_of f ≤ size → end_of f ≤ n

-- a field is lacking, of row f, exactly when that is the first that is cut
abbrev pub LacksField : ℕ → ℕ → ℕ → Type 0
LacksField n size f = (lacking n size ≡ Refusal.FieldCut f) ↔ FirstCut n size f

-- only undecoded bytes are lacking exactly when no field is cut
abbrev pub LacksUndecoded : ℕ → ℕ → Type 0
LacksUndecoded n size = (lacking n size ≡ Refusal.UndecodedCut) ↔ NoneCut n size
