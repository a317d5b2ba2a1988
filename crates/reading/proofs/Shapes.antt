-- The fields of a record that is read have their widths, where those that are read are there. Assumes nothing.
use Prim.Native.Nat.{ℕ, ◌≤◌, ◌<◌}
use mathlib.Core.Path.{◌≡◌}
use mathlib.Core.Bool.{Bool, true}
use mathlib.Core.List.{List}
use native.Mathlib.Omega.{arith}
use lib.Dec.{lit<}
use lib.ListN.{length, length-replicate}
use Rattle.laws.proofs.Choice.{chosen_by}
use Rattle.laws.proofs.Lists.{part_long}
use Rattle.record.specs.Table.{start_of, end_of, width_of}
use Rattle.record.specs.Shape.{Shaped}
use Rattle.reading.specs.Reading.{reads, field_by, record_by, plain, size_of, taken}
use Rattle.reading.proofs.Limits.{start_end, end_within}

module _ (p : ℕ → Bool) (s : List ℕ) (there : (f : ℕ) → f < 15 → p f ≡ true → end_of f ≤ length s) where
  pub field_long : (f : ℕ) → f < 15 → length (field_by p s f) ≡ width_of f
  unfolding field_by
  field_long f h =
      chosen_by (λ (w : List ℕ). length w ≡ width_of f) (p f)
      (λ e. part_long s (start_of f) (width_of f) (omega (arith, there f h e, start_end f h)))
      (λ e. length-replicate {A = ℕ} (width_of f) 0)

  shaped_by : Shaped (record_by p s)
  unfolding record_by
  shaped_by = record { script = field_long 9 (lit< tt); variant = field_long 10 (lit< tt); numbering = field_long 13 (lit< tt); padding = field_long 14 (lit< tt) }

-- the fields that plain reading reads are there, where T bytes are
pub within_whole : (s : List ℕ) → taken s ≤ length s → (f : ℕ) → f < 15 → reads (size_of s) f ≡ true → end_of f ≤ length s
within_whole s whole f h e = omega (arith, end_within (size_of s) f h e)

-- the record that plain reading gives has its arrays' lengths
pub shaped_plain : (s : List ℕ) → taken s ≤ length s → Shaped (plain s)
unfolding plain
shaped_plain s whole = shaped_by _ s (within_whole s whole)
