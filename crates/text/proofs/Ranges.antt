-- What a reading gives of some bytes is in the ranges of its types, so that no text of it is longer than 344 or has more than 24 replacements. Assumes nothing.
use Prim.Native.Nat.{ℕ, ◌≤◌}
use mathlib.Core.Bool.{Bool}
use mathlib.Core.List.{List}
use native.Mathlib.Omega.{arith}
use lib.ListN.{length, drop, length-take, length-replicate}
use Rattle.laws.proofs.Choice.{chosen}
use Rattle.record.specs.Table.{Bytes, start_of, width_of}
use Rattle.reading.specs.Reading.{field_by, record_by, plain, aged}
use Rattle.reading.proofs.Ranges.{field_below}
use Rattle.locale.specs.Subtags.{text_replacements}
use Rattle.locale.proofs.Counts.{few_by, text_most}
use Rattle.places.specs.Places.{text_of}
use Rattle.text.proofs.Long.{Ranged, ranged_long}

-- a field has no more bytes than its width
field_wide : (p : ℕ → Bool) (s : List ℕ) (f : ℕ) → length (field_by p s f) ≤ width_of f
unfolding field_by
field_wide p s f =
    chosen (λ (w : List ℕ). length w ≤ width_of f) (p f)
    (omega (arith, length-take (width_of f) (drop (start_of f) s))) (omega (arith, length-replicate {A = ℕ} (width_of f) 0))

module _ (p : ℕ → Bool) (s : List ℕ) (h : Bytes s) where
  ranged : Ranged (record_by p s)
  unfolding record_by
  ranged = record {
    imsi = field_below p s 1 h;
    screen = field_below p s 3 h;
    pixels = field_below p s 5 h;
    version = field_below p s 6 h;
    config = field_below p s 7 h;
    dp = field_below p s 8 h;
    locale = field_below p s 2 h;
    script = field_wide p s 9;
    variant = field_wide p s 10;
    numbering = field_wide p s 13;
  }

-- no text is longer of what is read of some bytes, whichever fields are
pub read_long : (p : ℕ → Bool) (s : List ℕ) → Bytes s → length (text_of (record_by p s)) ≤ 344
read_long p s h = ranged_long _ (ranged p s h)

-- nor has one more replacements
pub read_most : (p : ℕ → Bool) (s : List ℕ) → Bytes s → text_replacements (record_by p s) ≤ 24
read_most p s h = let r = ranged p s h in text_most _ (few_by _ r.locale r.script r.variant r.numbering)

-- no text of what the plain reading gives is longer, nor of what a reader of an age gives
pub plain_long : (s : List ℕ) → Bytes s → length (text_of (plain s)) ≤ 344
unfolding plain
plain_long s h = read_long _ s h

pub aged_long : (a : ℕ) (s : List ℕ) → Bytes s → length (text_of (aged a s)) ≤ 344
unfolding aged
aged_long a s h = read_long _ s h

pub plain_most : (s : List ℕ) → Bytes s → text_replacements (plain s) ≤ 24
unfolding plain
plain_most s h = read_most _ s h

pub aged_most : (a : ℕ) (s : List ℕ) → Bytes s → text_replacements (aged a s) ≤ 24
unfolding aged
aged_most a s h = read_most _ s h
