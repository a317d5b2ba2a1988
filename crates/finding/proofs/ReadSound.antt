-- A record that is read of some bytes is sound, so what is proved of keys holds of it. Assumes nothing.
use Prim.Native.Nat.{ℕ, ◌≤◌}
use mathlib.Core.Path.{refl}
use mathlib.Core.List.{List}
use lib.Dec.{lit<}
use lib.ListN.{length}
use Rattle.record.specs.Blank.{blank_record}
use Rattle.record.specs.Table.{Bytes}
use Rattle.keys.specs.Keys.{Sound}
use Rattle.reading.specs.Reading.{reads, record_by, plain, size_of, taken, parse_of, parse_took, parse_refused}
use Rattle.reading.proofs.Ranges.{field_below}
use Rattle.reading.proofs.Shapes.{shaped_plain}
use Rattle.reading.proofs.Whole.{front, short, cut, whole, whole_short, whole_cut, whole_took}

-- the plain reading
pub plain_sound : (s : List ℕ) → Bytes s → taken s ≤ length s → Sound (plain s)
unfolding plain record_by
plain_sound s bytes there =
    let p = reads (size_of s) in
    record {
      imsi = field_below p s 1 bytes;
      locale = field_below p s 2 bytes;
      screen_type = field_below p s 3 bytes;
      generic_purpose_field = field_below p s 4 bytes;
      screen_size = field_below p s 5 bytes;
      version = field_below p s 6 bytes;
      screen_config = field_below p s 7 bytes;
      screen_size_dp = field_below p s 8 bytes;
      screen_config_2 = field_below p s 11 bytes;
      arrays = shaped_plain s there;
    }

-- the record that goes along with a refusal
pub blank_sound : Sound blank_record
blank_sound =
    record {
      imsi = lit< tt;
      locale = lit< tt;
      screen_type = lit< tt;
      generic_purpose_field = lit< tt;
      screen_size = lit< tt;
      version = lit< tt;
      screen_config = lit< tt;
      screen_size_dp = lit< tt;
      screen_config_2 = lit< tt;
      arrays = record { script = refl; variant = refl; numbering = refl; padding = refl };
    }

-- so is what a parse gives, whatever the bytes are
pub parse_sound : (s : List ℕ) → Bytes s → Sound (parse_of s).gives
parse_sound s bytes =
    elim (front s) [
      | short h ↦ rw (whole_short s parse_refused (parse_took (taken s) (plain s)) h) blank_sound
      | cut h g ↦ rw (whole_cut s parse_refused (parse_took (taken s) (plain s)) h g) blank_sound
      | whole h ↦ rw (whole_took s parse_refused (parse_took (taken s) (plain s)) h) (plain_sound s bytes h)
    ]
