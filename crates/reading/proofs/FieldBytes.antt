-- A field's bytes where it is read, and zeros where not; a record goes by which fields are read. Assumes nothing.
use Prim.Native.Nat.{ℕ, suc, ◌+◌, ◌≤◌, ◌<◌}
use mathlib.Core.Path.{◌≡◌, sym, ap, ◌∙◌}
use mathlib.Core.Bool.{Bool, not}
use mathlib.Core.List.{List, ◌∷◌}
use native.Mathlib.Omega.{arith}
use lib.Dec.{leb, lit<}
use lib.ListN.{length, get_or, replicate}
use borrow.Author.Tests.{le-leb, lt-leb}
use Rattle.record.specs.Table.{part, le, all_zero, start_of, end_of, width_of}
use Rattle.reading.specs.Reading.{field_by, record_by}
use Rattle.laws.proofs.Lists.{listed, row}
use Rattle.reading.proofs.Records.{same}

-- a field of n bytes that ends within l is its bytes, and one that doesn't is n zeros
module _ (s : List ℕ) (l f n : ℕ) (w : end_of f ≡ start_of f + n) where
  width : width_of f ≡ n
  width = omega arith

  pub read_is : end_of f ≤ l → field_by (λ g. leb (end_of g) l) s f ≡ part s (start_of f) n
  unfolding field_by
  read_is h = simp (le-leb (end_of f) l h) (ap (part s (start_of f)) width)

  pub zero_is : l < end_of f → field_by (λ g. leb (end_of g) l) s f ≡ replicate n 0
  unfolding field_by
  zero_is h = simp (lt-leb (end_of f) l h) (ap (λ (k : ℕ). replicate k 0) width)

-- a field of n + 1 bytes that ends within l, by its bytes one by one
pub read_row : (s : List ℕ) (l f n : ℕ) → l ≤ length s → end_of f ≡ start_of f + suc n → end_of f ≤ l
    → get_or s (start_of f) 0 ∷ listed s (start_of f) 1 n ≡ field_by (λ g. leb (end_of g) l) s f
read_row s l f n b w h = row s (start_of f) n (omega arith) ∙ sym (read_is s l f (suc n) w h)

-- a field's bytes go by whether it is read
pub field_by_lem : (p q : ℕ → Bool) (s : List ℕ) (f : ℕ) → p f ≡ q f → field_by p s f ≡ field_by q s f
unfolding field_by
field_by_lem p q s f e = rw e

-- two records whose fields have equal bytes are one
pub record_fields : (p q : ℕ → Bool) (s t : List ℕ) → ((f : ℕ) → f < 15 → field_by p s f ≡ field_by q t f) → record_by p s ≡ record_by q t
unfolding record_by
record_fields p q s t e =
    same record {
      size = ap le (e 0 (lit< tt));
      imsi = ap le (e 1 (lit< tt));
      locale = ap le (e 2 (lit< tt));
      screen_type = ap le (e 3 (lit< tt));
      generic_purpose_field = ap le (e 4 (lit< tt));
      screen_size = ap le (e 5 (lit< tt));
      version = ap le (e 6 (lit< tt));
      screen_config = ap le (e 7 (lit< tt));
      screen_size_dp = ap le (e 8 (lit< tt));
      locale_script = e 9 (lit< tt);
      locale_variant = e 10 (lit< tt);
      screen_config_2 = ap le (e 11 (lit< tt));
      locale_script_was_computed = ap (λ (l : List ℕ). not (all_zero l)) (e 12 (lit< tt));
      locale_numbering_system = e 13 (lit< tt);
      end_padding = e 14 (lit< tt);
    }

-- two readings that read the same fields give one record
pub record_by_lem : (p q : ℕ → Bool) (s : List ℕ) → ((f : ℕ) → f < 15 → p f ≡ q f) → record_by p s ≡ record_by q s
record_by_lem p q s e = record_fields p q s s (λ f h. field_by_lem p q s f (e f h))
