-- A field that readers of two ages both know has one value for both, that of plain reading. Assumes nothing.
use Prim.Native.Nat.{ℕ, ◌≤◌}
use mathlib.Core.Path.{◌≡◌, ap}
use mathlib.Core.Bool.{Bool, not}
use mathlib.Core.List.{List}
use native.Mathlib.Omega.{arith}
use borrow.Author.Tests.{le-leb}
use Rattle.record.specs.Table.{le, all_zero, end_of}
use Rattle.reading.specs.Reading.{reads, reads_at, field_by, record_by, plain, aged, size_of}
use Rattle.reading.specs.Demand3.{Alike}
use Rattle.reading.proofs.FieldBytes.{field_by_lem}

alike_by : (a : ℕ) (p q : ℕ → Bool) (s : List ℕ) → ((f : ℕ) → end_of f ≤ a → field_by p s f ≡ field_by q s f) → Alike a (record_by p s) (record_by q s)
unfolding record_by
alike_by a p q s e =
    record {
      size = λ h. ap le (e 0 h);
      imsi = λ h. ap le (e 1 h);
      locale = λ h. ap le (e 2 h);
      screen_type = λ h. ap le (e 3 h);
      generic_purpose_field = λ h. ap le (e 4 h);
      screen_size = λ h. ap le (e 5 h);
      version = λ h. ap le (e 6 h);
      screen_config = λ h. ap le (e 7 h);
      screen_size_dp = λ h. ap le (e 8 h);
      locale_script = e 9;
      locale_variant = e 10;
      screen_config_2 = λ h. ap le (e 11 h);
      locale_script_was_computed = λ h. ap (λ (l : List ℕ). not (all_zero l)) (e 12 h);
      locale_numbering_system = e 13;
      end_padding = e 14;
    }

module _ (a b : ℕ) (s : List ℕ) (rising : a ≤ b) where
  -- its bytes are the same for both
  pub both_know : (f : ℕ) → end_of f ≤ a → field_by (reads_at a (size_of s)) s f ≡ field_by (reads_at b (size_of s)) s f
  both_know f h = field_by_lem _ _ s f (rw (le-leb (end_of f) a h, le-leb (end_of f) b (omega arith)))

  -- and so is each field of the two records
  pub same_fields : Alike a (aged a s) (aged b s)
  unfolding aged
  same_fields = alike_by a (reads_at a (size_of s)) (reads_at b (size_of s)) s both_know

  -- the reading at age b gives each field that ends within a as plain reading does
  pub aged_alike : Alike a (aged b s) (plain s)
  unfolding aged plain
  aged_alike =
      alike_by a (reads_at b (size_of s)) (reads (size_of s)) s (λ f h. field_by_lem _ _ s f (let g : end_of f ≤ b = omega arith in rw (le-leb (end_of f) b g)))
